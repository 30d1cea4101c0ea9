-- The jumps before an item matter where it is a jump.
use mathlib.Core.Path.{◌≡◌, refl}
use mathlib.Core.List.{List, [], ◌∷◌}
use mathlib.Core.Bool.{Bool, true, false, cond, ◌&&◌}
use Prim.Native.Nat.{ℕ}
use lib.Dec.{leb}
use Rattle.rules.specs.Limits.{max_jumps, accepted, no_space}
use Rattle.rules.specs.Messages.{Item}
use Rattle.rules.specs.Items.{Row, is_jump, room_fault, fault_in, fault_among, commands, fault}

module _ (kind count own jumps : ℕ) (i : Item) where
  room : room_fault (cond (is_jump i) jumps 0) i ≡ room_fault jumps i
  room = go (is_jump i)
    where
      go : (t : Bool) → cond (t && leb max_jumps (cond t jumps 0)) no_space accepted ≡ cond (t && leb max_jumps jumps) no_space accepted
      go true = refl
      go false = refl

  in_row : (r : Row) → fault_in r count own (cond (is_jump i) jumps 0) i ≡ fault_in r count own jumps i
  unfolding fault_in
  in_row r = rw room

  among : (rs : List Row) → fault_among rs kind count own (cond (is_jump i) jumps 0) i ≡ fault_among rs kind count own jumps i
  unfolding fault_among
  among [] = refl
  among (r ∷ rs) = rw (in_row r, among rs)

  pub fault_room : (home : Bool) → fault home kind count own (cond (is_jump i) jumps 0) i ≡ fault home kind count own jumps i
  unfolding fault
  fault_room home = rw (among (commands home))
