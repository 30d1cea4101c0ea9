-- Rows. "Every line ends in LF. Fields are parted by one space. Numbers are decimal without leading zeros, except where hex is named."
use Rattle.std.specs.Prelude.{ℕ, List, ◌∷◌, ◌++◌}
use Rattle.text.specs.Words.{ascii}
use Rattle.text.specs.Digits.{spaced, hex}

-- a letter, and numbers after it
abbrev pub begun : (letter : ℕ) (ns : List ℕ) → List ℕ
begun letter ns = letter ∷ spaced ns

-- a letter and numbers as a line
abbrev pub row : (letter : ℕ) (ns : List ℕ) → List ℕ
row letter ns = begun letter ns ++ ascii "\n"

-- a word, numbers, a mark, bytes, and the last of the line
abbrev pub line : (word ns mark bytes last : List ℕ) → List ℕ
line word ns mark bytes last = word ++ (spaced ns ++ (mark ++ (hex bytes ++ last)))
