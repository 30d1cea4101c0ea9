-- By the result for the whole, over the store as it is settled; one that is no acceptance names the fault.
use mathlib.Core.Path.{◌≡◌, ap, ◌∙◌}
use mathlib.Core.Bool.{not}
use Prim.Native.Nat.{ℕ}
use Rattle.std.specs.Prelude.{Ok, Err}
use Rattle.rules.specs.Limits.{accepted}
use Rattle.rules.specs.Model.{whole_fault}
use Rattle.limits.specs.declared.Fault.{Fault}
use Rattle.limits.specs.Codes.{fault_code}
use Rattle.plan.specs.declared.Plan.{Plan}
use Rattle.plan.specs.declared.Run.{Run}
use Rattle.plan.specs.View.{task_in}
use Rattle.places.specs.Forms.{Store, words, items_in}
use Rattle.upload.specs.declared.Say.TheVariants.{Ack}
use Rattle.upload.specs.declared.Turned.{Turned}
use Rattle.upload.specs.Faults.{named_as}
use Rattle.upload.specs.Turns.{ended, replaced, moves, puts_in, turn_with, settled, last_turned}
use Rattle.taking.proofs.Faults.{not_accepted, is_accepted}
use Rattle.taking.proofs.running.Running.last_turn.Goals as goal

module _ (s s' : Store) (kind : ℕ) (p : Plan) (r : Run) (is : s' ≡ settled words s kind p r) where
  abbrev result : ℕ
  result = whole_fault kind (task_in r) (items_in words s' (not p.half) kind r.count)

  turns : (t : Turned) → t ≡ last_turned words s' kind p r → turn_with t s' ≡ turn_with (last_turned words (settled words s kind p r) kind p r) (settled words s kind p r)
  turns t e = ap (λ (x : Turned). turn_with x s') e ∙ ap (λ (x : Store). turn_with (last_turned words x kind p r) x) is

  fails : (f : Fault) (q : Plan) (t : Turned) → fault_code f ≡ result → q ≡ ended p → t ≡ moves q (Ack (Err f))
      → turn_with t s' ≡ turn_with (last_turned words (settled words s kind p r) kind p r) (settled words s kind p r)
  unfolding last_turned
  fails f q t ef eq et = turns t (rw (not_accepted f result ef, ← named_as f result ef, et, eq))

  passes : (q : Plan) (t : Turned) → accepted ≡ result → q ≡ replaced p r.count → t ≡ puts_in r.partial q (Ack (Ok q.number))
      → turn_with t s' ≡ turn_with (last_turned words (settled words s kind p r) kind p r) (settled words s kind p r)
  unfolding last_turned
  passes q t good eq et = turns t (rw (is_accepted result good, et, eq))

pub returns-in-Err : goal.returns-in-Err
returns-in-Err c = fails _ _ _ _ _ c.settle.ensures c.in-Err.fault _ _ c.in-Err.ensures c.ended.ensures c.moves.ensures

pub returns : goal.returns
returns c = passes _ _ _ _ _ c.settle.ensures _ _ c.in_default.ensures c.replaced-new.ensures c.puts_in.ensures
