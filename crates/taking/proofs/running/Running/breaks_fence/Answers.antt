-- A fence is judged by its own function.
use mathlib.Core.Path.{◌≡◌}
use mathlib.Core.Bool.{Bool, not, ◌&&◌}
use Prim.Native.Nat.{ℕ}
use lib.Dec.{eqb}
use borrow.Author.Rules.{rules}
use Rattle.rules.specs.Limits.{fence}
use Rattle.rules.specs.Fence.{fence_ok}
use Rattle.limits.specs.Kinds.{kind_number}
use Rattle.limits.specs.declared.Kind.{Kind}
use Rattle.limits.specs.declared.Kind.TheVariants.{Fence}
use Rattle.places.specs.Forms.{Store, words, items_in}
use Rattle.taking.proofs.running.Running.breaks_fence.Goals as goal

judged : (store : Store) (half : Bool) (kind : Kind) (n : ℕ) (b : Bool) → kind ≡ Fence → b ≡ fence_ok (items_in words store half fence n)
    → not b ≡ (eqb (kind_number kind) fence && not (fence_ok (items_in words store half (kind_number kind) n)))
judged store half kind n b e eb = rw (e, eb)

pub returns-then-eq : goal.returns-then-eq
returns-then-eq c = search (judged, rules)
