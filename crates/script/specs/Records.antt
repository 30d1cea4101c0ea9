-- Records of a call script, and when one can be played. "A script is a row of records. Each record is a header of exactly 24 bytes and then
-- `len` payload bytes. All numbers are little-endian and unsigned."
use Rattle.std.specs.Prelude.{ℕ, ◌+◌, ◌*◌, ◌/◌, ◌%◌, Bool, true, false, not, ◌&&◌, ◌||◌, cond, eqb, ltb, leb, length, get_or, Option, Some, None, Result, Ok, Err}
use Rattle.rules.specs.Limits.{rally, size_of, max_jumps, item_words}
use Rattle.rules.specs.Payload.{Bytes, number_at}
use Rattle.writing.specs.Written.{word_bytes}
use Rattle.script.specs.declared.Record.{Record}
use Rattle.script.specs.Kinds.{kind_of, target_of}
use Rattle.script.specs.declared.kinds.Kind.{Kind}
use Rattle.script.specs.declared.kinds.Kind.TheVariants.{End, Message, Timer, Done, Dump, Fresh, Snap, Compare, Poke, Write, Move}
use Rattle.script.specs.declared.kinds.Stop.{Stop}
use Rattle.script.specs.declared.kinds.Stop.TheVariants.{Cut, Bad}
use Rattle.script.specs.declared.kinds.Target.{Target}
use Rattle.script.specs.declared.kinds.Target.TheVariants.{Words, Plan, OtherHalf, Old}
use Rattle.script.specs.declared.kinds.UnknownTarget.{UnknownTarget}

abbrev pub header_bytes : ℕ
header_bytes = 24

abbrev pub most_payload : ℕ
most_payload = 300

-- the lengths of the arrays that a script's calls are lent: "The store array is 5,664 words of 32 bits"; "B is an array of 26,880 bytes"
abbrev pub store_array : ℕ
store_array = 5664

abbrev pub old_array : ℕ
old_array = 26880

abbrev pub reply_array : ℕ
reply_array = 64

-- "whole items only, 32 bytes each"
abbrev pub stored_bytes : ℕ
stored_bytes = item_words * word_bytes

unfoldable pub record_in : Kind → Bytes → Record
record_in kind p =
    record {
      kind = kind;
      b0 = get_or p 1 0;
      b1 = get_or p 2 0;
      b2 = get_or p 3 0;
      b3 = get_or p 4 0;
      b4 = get_or p 5 0;
      len = number_at 2 6 p;
      a = number_at 4 8 p;
      clock = number_at 4 12 p;
      store = number_at 4 16 p;
      reply = number_at 4 20 p;
    }

-- POKE: fields 0 to 9 and 13 to 15 are numbers of a plan or of its upload, 10 and 11 of the state, 12 a jump count
unfoldable pub poke_fits : (field index : ℕ) → Bool
poke_fits field index =
    (leb field 9 || leb 13 field && leb field 15) && ltb index 3 || (eqb field 10 || eqb field 11) && eqb index 0 || eqb field 12 && ltb index max_jumps

-- WRITE, "a length that is no multiple of 32 (b4 = 1, 2) or of 4 (b4 = 0 ..), a kind above 2, items past the kind's size, or a place past the array:
-- `? 9`". "b4 = 0 writes from word a; the payload is a row of words"
unfoldable pub words_fit : (at len : ℕ) → Bool
words_fit at len = eqb (len % word_bytes) 0 && leb (at + len / word_bytes) store_array

-- "b4 = 1: from item a of the plan of kind b0, in the half that the plan is in; b4 = 2: the same place in the other half"
unfoldable pub items_fit : (kind at len : ℕ) → Bool
items_fit kind at len = leb kind rally && eqb (len % stored_bytes) 0 && leb (at + len / stored_bytes) (size_of kind)

-- "b4 = 3: the old byte array B, from byte a"
unfoldable pub bytes_fit : (at len : ℕ) → Bool
bytes_fit at len = leb (at + len) old_array

abbrev pub target_fits : Result Target UnknownTarget → (kind at len : ℕ) → Bool
target_fits (Ok Words) kind at len = words_fit at len
target_fits (Ok Plan) kind at len = items_fit kind at len
target_fits (Ok OtherHalf) kind at len = items_fit kind at len
target_fits (Ok Old) kind at len = bytes_fit at len
target_fits (Err e) kind at len = false

unfoldable pub write_fits : (to kind at len : ℕ) → Bool
write_fits to kind at len = target_fits (target_of to) kind at len

-- FRESH with or without the setting, (M-109) "bit 0 of b4"; SNAP and CMP of the store array, "with b4 = 1" of B; MOVE, "a above 26,880: `? 18`"
abbrev pub known : Kind → Record → Bool
known End r = true
known Message r = true
known Timer r = true
known Done r = true
known Dump r = true
known Fresh r = leb r.b4 1
known Snap r = leb r.b4 1
known Compare r = leb r.b4 1
known Poke r = poke_fits r.b4 r.b0
known Write r = write_fits r.b4 r.b0 r.a r.len
known Move r = leb r.a old_array

-- "len above 300, store above [5,664], reply above 64 .. the program stops"
unfoldable pub fits : Record → Bool
fits r = known r.kind r && leb r.len most_payload && leb r.store store_array && leb r.reply reply_array

-- what a record of a kind is, with its number: "A record cut by the end of input: `? cut`"
abbrev pub played : Bytes → (number : ℕ) → Record → Result (Option Record) Stop
played p number r = cond (not (fits r)) (Err (Bad number)) (cond (ltb (length p) (header_bytes + r.len)) (Err Cut) (Ok (Some r)))

abbrev pub next_of : Bytes → (number : ℕ) → Result Kind Stop → Result (Option Record) Stop
next_of p number (Err stop) = Err stop
next_of p number (Ok End) = Ok None
next_of p number (Ok kind) = played p number (record_in kind p)

-- "A script .. ends with a record 0; the end of input counts as a record 0"
unfoldable pub next_in : Bytes → Result (Option Record) Stop
next_in p =
    let number = get_or p 0 0 in
    cond (eqb (length p) 0) (Ok None)
    (cond (ltb (length p) header_bytes) (Err Cut)
    (next_of p number (kind_of number)))
