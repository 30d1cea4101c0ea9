-- Jumps too many decide the first test of `whole_fault`.
use mathlib.Core.Path.{◌≡◌}
use mathlib.Core.List.{List}
use mathlib.Core.Bool.{Bool, true, ◌&&◌}
use Prim.Native.Nat.{ℕ}
use lib.Dec.{eqb, ltb}
use Rattle.rules.specs.Limits.{flight, max_jumps, no_space}
use Rattle.rules.specs.Payload.{Bytes}
use Rattle.rules.specs.Items.{jumps_among}
use Rattle.rules.specs.Model.{Task, whole_fault}
use borrow.Author.Rules.{rules}
use Rattle.taking.proofs.running.Running.whole_fault.Goals as goal

no_room : (kind : ℕ) (t : Task) (items : List Bytes) (jumps : Bool) → jumps ≡ (t.partial && eqb kind flight && ltb max_jumps (jumps_among items)) → jumps ≡ true → no_space ≡ whole_fault kind t items
unfolding whole_fault
no_room kind t items jumps many e = simp (← many, e)

pub returns-then-too_many_jumps : goal.returns-then-too_many_jumps
returns-then-too_many_jumps c = search (no_room, rules)
