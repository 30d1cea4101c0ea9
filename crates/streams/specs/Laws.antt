-- Laws of making room.
use Rattle.std.specs.Prelude.{ℕ, ◌+◌, ◌-◌, ◌<◌, ◌≤◌, min, ◌≡◌, List, length}
use Rattle.std.proofs.Common.{◌∙◌, sym, arith, le-leb}
use Rattle.std.proofs.lemmas.Bool.{lt-leb}
use Rattle.adding.specs.Added.{Filled, emptied, size_of}
use Rattle.streams.specs.Sent.{sent, sent_front}

module _ (filled : Filled) (room : ℕ) where
  pub sent_none : room ≤ filled.left → filled ≡ sent filled room
  unfolding sent
  sent_none h = rw (le-leb room filled.left h)

  pub sent_all : filled.left < room → emptied (size_of filled) ≡ sent filled room
  unfolding sent
  sent_all h = rw (lt-leb room filled.left h)

-- of a slice
module _ (out : List ℕ) (at room end : ℕ) (is : end ≡ min at (length out)) where
  pub front_kept : room ≤ length out - end → end ≡ sent_front out at room
  unfolding sent_front
  front_kept h = is ∙ sym (rw (le-leb (min at (length out) + room) (length out) (omega arith)))

  pub front_sent : length out - end < room → 0 ≡ sent_front out at room
  unfolding sent_front
  front_sent h = sym (rw (lt-leb (min at (length out) + room) (length out) (omega arith)))
