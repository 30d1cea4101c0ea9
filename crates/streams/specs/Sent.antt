-- Text that is written to make room.
use Rattle.std.specs.Prelude.{ℕ, ◌+◌, min, cond, List, leb, length}
use Rattle.adding.specs.Added.{Filled, emptied, size_of}

-- text as it was, or none once it is written, where there was less room behind it than asked for
unfoldable pub sent : Filled → (room : ℕ) → Filled
sent filled room = cond (leb room filled.left) filled (emptied (size_of filled))

-- where text at the start of a slice then ends: where it did, or at the slice's start
unfoldable pub sent_front : List ℕ → (at room : ℕ) → ℕ
sent_front out at room = let end = min at (length out) in cond (leb (end + room) (length out)) end 0
