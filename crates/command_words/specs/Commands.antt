-- A command in words, as the lines of a call script have it.
use Rattle.std.specs.Prelude.{ℕ, ◌/◌, ◌%◌, List, [], ◌∷◌, ◌++◌, Float}
use Rattle.std.specs.Float.{binary32}
use Rattle.std.specs.Float.Ieee.{to_bits}
use Rattle.text.specs.Words.{ascii}
use Rattle.text.specs.Digits.{spaced, hex}
use Rattle.command.specs.declared.Command.{Command}
use Rattle.command.specs.declared.Command.TheVariants.{Fly, Wait, Near, Turn, Speed, Servo, Finished, Stuck}

-- a value after a space: "8 hex digits, the bit pattern .., highest first". Every NaN is shown as the quiet one without a sign.
abbrev pub high_first : ℕ → List ℕ
high_first n = n / 16777216 ∷ n / 65536 % 256 ∷ n / 256 % 256 ∷ n % 256 ∷ []

abbrev pub value_text : Float → List ℕ
value_text x = 32 ∷ hex (high_first (to_bits binary32 x))

-- "ANSWER is one of .."
unfoldable pub command_text : Command → List ℕ
command_text (Fly n) = ascii " fly" ++ spaced (n ∷ [])
command_text (Wait n x) = ascii " wait" ++ (spaced (n ∷ []) ++ value_text x)
command_text (Near n x) = ascii " near" ++ (spaced (n ∷ []) ++ value_text x)
command_text (Turn n x) = ascii " turn" ++ (spaced (n ∷ []) ++ value_text x)
command_text (Speed n x) = ascii " speed" ++ (spaced (n ∷ []) ++ value_text x)
command_text (Servo n channel pulse) = ascii " servo" ++ spaced (n ∷ channel ∷ pulse ∷ [])
command_text Finished = ascii " finished"
command_text Stuck = ascii " stuck"
