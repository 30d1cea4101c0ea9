-- What is put behind a slice's first bytes.
use Rattle.std.specs.Prelude.{ℕ, List, ◌++◌, length, take}

-- what stands in a slice before a place, and more behind it, as far as the slice has room
abbrev pub added : List ℕ → ℕ → List ℕ → List ℕ
added before at more = take (length before) (take at before ++ more)
