-- The lines of a call script. "Every line ends in LF. Fields are parted by one space. Numbers are decimal without leading zeros, except
-- where hex is named. Hex is upper case, two digits a byte, no spaces."
use Rattle.std.specs.Prelude.{ℕ, Bool, true, false, ◌&&◌, cond, List, [], ◌∷◌, ◌++◌, eqb, take, drop, Result, Ok, Err}
use Rattle.text.specs.Words.{ascii}
use Rattle.text.specs.Digits.{hex}
use Rattle.rows.specs.Rows.{begun, row}
use Rattle.script.specs.declared.kinds.Stop.{Stop}
use Rattle.script.specs.declared.kinds.Stop.TheVariants.{Cut, Bad}
use Rattle.command.specs.declared.Command.{Command}
use Rattle.command_words.specs.Commands.{command_text}

-- "the first LEN bytes of the reply array in hex, or `-` when LEN is 0"
unfoldable pub reply_text : (len : ℕ) (reply : List ℕ) → List ℕ
reply_text len reply = cond (eqb len 0) (ascii "-") (hex (take len reply))

-- every byte is what a reply array was filled with, A5
unfoldable pub untouched : List ℕ → Bool
untouched [] = true
untouched (b ∷ bs) = eqb b 165 && untouched bs

-- "If any of the bytes LEN to 63 of the reply array is no longer A5, the line ends in ` B`."
unfoldable pub marked_end : Bool → List ℕ
marked_end true = ascii "\n"
marked_end false = ascii " B\n"

-- "`m OUTCOME ID LEN BYTES` for a message call and `t OUTCOME ID LEN BYTES` for a timer call"
unfoldable pub served_line : (letter outcome id len : ℕ) (reply : List ℕ) → List ℕ
served_line letter outcome id len reply =
    begun letter (outcome ∷ id ∷ len ∷ []) ++ ((32 ∷ reply_text len reply) ++ marked_end (untouched (drop len reply)))

-- "`d OUTCOME ANSWER` for a done call"
unfoldable pub done_line : (outcome : ℕ) → Command → List ℕ
done_line outcome command = begun 100 (outcome ∷ []) ++ (command_text command ++ ascii "\n")

-- "`v OUTCOME`" for a move
unfoldable pub moved_line : (outcome : ℕ) → List ℕ
moved_line outcome = row 118 (outcome ∷ [])

-- "the line `? TYPE`, and the program stops. A record cut by the end of input: `? cut`."
unfoldable pub stop_text : {A : Type 0} → Result A Stop → List ℕ
stop_text (Ok next) = []
stop_text (Err Cut) = ascii "? cut\n"
stop_text (Err (Bad kind)) = row 63 (kind ∷ [])
