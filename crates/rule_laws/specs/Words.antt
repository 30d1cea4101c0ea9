-- An item kept as eight words is the stored item; what is read of eight words is what they say; and what is stored is stored again as it is.
use Rattle.std.specs.Prelude.{ℕ, zero, suc, ◌+◌, ◌*◌, ◌/◌, ◌%◌, ◌^◌, ◌<◌, ◌≡◌, refl, List, ◌∷◌, length, get_or}
use Rattle.std.proofs.Common.{arith, mod-eq_of_lt, pow-suc, sym, ap, ap₂, ◌∙◌}
use Rattle.std.proofs.Math.Nat.{pow-zero}
use Rattle.std.proofs.Math.Arith.{mod-mul}
use Rattle.rules.specs.Limits.{byte_values, clock_values, item_words}
use Rattle.rules.specs.Payload.{bytes_of}
use Rattle.rules.specs.Layouts.{layout_of, pack}
use Rattle.rules.specs.Messages.{Item, encode, item_of, item_in}
use Rattle.rules.specs.Words.{frame_unit, command_in, frame_in, autocontinue_in, last_word_of, words_of, item_of_words}
use Rattle.rule_laws.specs.ReadBack.{item_reads_back}

pub length_words_of : (item : Item) → length (words_of item) ≡ item_words
length_words_of item = refl

-- ---- the three numbers of the last word

module _ (c f a : ℕ) where
  pub command_kept : command_in (last_word_of c f a) ≡ c % frame_unit
  command_kept = omega arith

  pub frame_kept : frame_in (last_word_of c f a) ≡ f % byte_values
  frame_kept = omega arith

  pub autocontinue_kept : autocontinue_in (last_word_of c f a) ≡ a % byte_values
  autocontinue_kept = omega arith

some_values : (size : ℕ) → 0 < byte_values ^ size
some_values zero = rw pow-zero (omega arith)
some_values (suc size) = let less = some_values size in rw pow-suc (omega arith)

-- the bytes of a number are those of what is left of it by their size
bytes_cut : (size n : ℕ) → bytes_of size (n % byte_values ^ size) ≡ bytes_of size n
unfolding bytes_of
bytes_cut zero n = refl
bytes_cut (suc size) n =
    let rest = n / byte_values % byte_values ^ size in
    let split : n % byte_values ^ suc size ≡ rest * byte_values + n % byte_values =
    ap (λ (k : ℕ). n % k) (pow-suc byte_values size) ∙ mod-mul n (some_values size) (omega arith) in
    let low : n % byte_values ^ suc size % byte_values ≡ n % byte_values = omega (arith, split) in
    let high : n % byte_values ^ suc size / byte_values ≡ rest = omega (arith, split) in
    ap₂ {C = List ℕ} (λ (x : ℕ) (l : List ℕ). x ∷ l) low (ap (bytes_of size) high ∙ bytes_cut size (n / byte_values))

-- "a stored item's other fields are 0": the words of an item, at its own place, are the stored item, whatever its numbers
pub words_kept : (item : Item) → item_of (item_of_words (words_of item) item.kind item.seq) ≡ item_of item
unfolding item_of encode pack layout_of
words_kept item =
    let c = item.command in
    let f = item.frame in
    let a = item.autocontinue in
    let w = last_word_of c f a in
    let ec : bytes_of 2 (command_in w) ≡ bytes_of 2 c = ap (bytes_of 2) (command_kept c f a) ∙ bytes_cut 2 c in
    let ef : bytes_of 1 (frame_in w) ≡ bytes_of 1 f = ap (bytes_of 1) (frame_kept c f a) ∙ bytes_cut 1 f in
    let ea : bytes_of 1 (autocontinue_in w) ≡ bytes_of 1 a = ap (bytes_of 1) (autocontinue_kept c f a) ∙ bytes_cut 1 a in
    rw (ec, ef, ea)

-- what is read of the stored item that eight words are is what they say
pub words_read :
    (w : List ℕ) (kind n : ℕ) → ((i : ℕ) → get_or w i 0 < clock_values) → kind < byte_values → n < byte_values ^ 2
    → item_in (item_of (item_of_words w kind n)) ≡ item_of_words w kind n
unfolding layout_of
words_read w kind n h hk hn =
    item_reads_back (item_of_words w kind n)
    (h 0, (h 1, (h 2, (h 3, (h 4, (h 5, (h 6, (hn, (omega arith, (omega arith, (omega arith, (omega arith, (omega arith, (omega arith, (hk, tt)))))))))))))))

-- ---- what is stored is stored again as it is, whatever the words

-- an item with each number cut to its field
abbrev pub cut : Item → Item
cut i =
    record {
      param1 = i.param1 % clock_values;
      param2 = i.param2 % clock_values;
      param3 = i.param3 % clock_values;
      param4 = i.param4 % clock_values;
      x = i.x % clock_values;
      y = i.y % clock_values;
      z = i.z % clock_values;
      seq = i.seq % frame_unit;
      command = i.command % frame_unit;
      frame = i.frame % byte_values;
      autocontinue = i.autocontinue % byte_values;
      kind = i.kind % byte_values;
    }

-- its bytes are the same
stored_cut : (i : Item) → item_of (cut i) ≡ item_of i
unfolding item_of encode pack layout_of
stored_cut i =
    rw (
      bytes_cut 4 i.param1,
      bytes_cut 4 i.param2,
      bytes_cut 4 i.param3,
      bytes_cut 4 i.param4,
      bytes_cut 4 i.x,
      bytes_cut 4 i.y,
      bytes_cut 4 i.z,
      bytes_cut 2 i.seq,
      bytes_cut 2 i.command,
      bytes_cut 1 i.frame,
      bytes_cut 1 i.autocontinue,
      bytes_cut 1 i.kind,
    )

-- what a stored item says, whatever the numbers of the item that was stored
pub stored_says : (i : Item) → item_in (item_of i) ≡ cut i
unfolding layout_of
stored_says i =
    ap item_in (sym (stored_cut i))
    ∙ item_reads_back (cut i)
    (omega arith, (omega arith, (omega arith, (omega arith, (omega arith, (omega arith, (omega arith, (omega arith, (omega arith, (omega arith, (omega arith, (omega arith, (omega arith, (omega arith, (omega arith, tt)))))))))))))))

-- the words of the stored item that words are, at the same place, are that stored item
pub words_again :
    (w : List ℕ) (kind n : ℕ) → kind < byte_values → n < byte_values ^ 2
    → item_of (item_of_words (words_of (item_in (item_of (item_of_words w kind n)))) kind n) ≡ item_of (item_of_words w kind n)
words_again w kind n hk hn =
    let i = item_of_words w kind n in
    ap (λ (j : Item). item_of (item_of_words (words_of j) kind n)) (stored_says i)
    ∙ ap₂ (λ (k s : ℕ). item_of (item_of_words (words_of (cut i)) k s)) (sym (mod-eq_of_lt hk)) (sym (mod-eq_of_lt hn))
    ∙ words_kept (cut i)
    ∙ stored_cut i
