-- The two runs of items are those of `filled`: what is before the part's first number, and what is behind its last.
use mathlib.Core.Path.{◌≡◌, ◌∙◌, ap}
use mathlib.Core.Bool.{true}
use Prim.Native.Nat.{ℕ, ◌+◌, ◌-◌}
use native.Mathlib.Omega.{arith}
use Rattle.plan.specs.declared.Plan.{Plan}
use Rattle.plan.specs.declared.Run.{Run}
use Rattle.places.specs.Forms.{Store, words}
use Rattle.places.specs.Carried.{carried, filled}
use Rattle.upload.specs.Turns.{settled}
use borrow.Author.Rules.{rules}
use Rattle.taking.proofs.running.Running.settle.Goals as goal

module _ (s : Store) (kind : ℕ) (p : Plan) (r : Run) where
  part : (s' s'' : Store) → r.partial ≡ true → s' ≡ carried words s p.half kind 0 (r.first - 0) → s'' ≡ carried words s' p.half kind (r.last + 1) (r.count - (r.last + 1))
      → s'' ≡ settled words s kind p r
  unfolding settled filled
  part s' s'' e first rest =
      rw e
      (rest
      ∙ ap (λ (x : Store). carried words x p.half kind (r.last + 1) (r.count - (r.last + 1)))
      (first ∙ ap (carried words s p.half kind 0) (let none : r.first - 0 ≡ r.first = omega arith in none)))

pub returns-then-self : goal.returns-then-self
returns-then-self c = search (part, rules)
