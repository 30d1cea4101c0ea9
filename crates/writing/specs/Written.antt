-- Bytes and words written over others: WRITE of a call script.
use Rattle.std.specs.Prelude.{ℕ, zero, suc, ◌+◌, ◌*◌, ◌/◌, ◌%◌, cond, List, [], ◌∷◌, ◌++◌, eqb, leb, length, take, drop}
use Rattle.rules.specs.Payload.{Bytes, number_at}

-- bytes, or words, in the place of as many from a place on, where all of them fit
unfoldable pub written : List ℕ → (at : ℕ) → List ℕ → List ℕ
written store at more = cond (leb (at + length more) (length store)) (take at store ++ (more ++ drop (at + length more) store)) store

abbrev pub word_bytes : ℕ
word_bytes = 4

-- the first n words in a payload: "a row of words, four bytes each, lowest byte first"
unfoldable pub words_in : (n : ℕ) → Bytes → List ℕ
words_in zero p = []
words_in (suc n) p = words_in n p ++ (number_at word_bytes (n * word_bytes) p ∷ [])

-- a payload's words so written; where its bytes are not whole words, nothing is
unfoldable pub words_written : List ℕ → (at : ℕ) → Bytes → List ℕ
words_written store at p = cond (eqb (length p % word_bytes) 0) (written store at (words_in (length p / word_bytes) p)) store
