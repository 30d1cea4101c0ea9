-- Every test decides one `cond` of `judged_as`; a result that is no acceptance names the fault.
use mathlib.Core.Path.{◌≡◌}
use mathlib.Core.Bool.{Bool, false, not}
use Prim.Native.Nat.{ℕ}
use borrow.Author.Tests.{eq-eqb, ne_eqb}
use borrow.Author.Rules.{rules}
use native.Mathlib.Omega.{arith}
use Rattle.std.specs.Prelude.{Err}
use Rattle.rules.specs.Messages.{Station, Item, station, same_station}
use Rattle.item.specs.Patterns.{patterns}
use Rattle.limits.specs.Kinds.{kind_number}
use Rattle.limits.specs.declared.Fault.{Fault}
use Rattle.limits.specs.Codes.{fault_code}
use Rattle.places.specs.Forms.{Store, words}
use Rattle.plan.specs.declared.Plan.{Plan}
use Rattle.plan.specs.declared.Run.{Run}
use Rattle.plan.specs.View.{station_in}
use Rattle.upload.specs.declared.Say.TheVariants.{Ack, Ask}
use Rattle.upload.specs.declared.Turned.{Turned}
use Rattle.upload.specs.Faults.{named_as}
use Rattle.upload.specs.Turns.{ended, keeps, moves, item_verdict}
use Rattle.taking.specs.Judging.{judged_as}
use Rattle.taking.proofs.Faults.{not_accepted}
use Rattle.taking.proofs.running.Running.judge.Goals as goal

module _ (home : Bool) (s : Store) (kind : ℕ) (p : Plan) (r : Run) (from : Station) (item : Item) where
  fails : (f : Fault) (q : Plan) (t : Turned) → false ≡ not (same_station from (station_in r)) → item.seq ≡ r.next → fault_code f ≡ item_verdict words home s kind p r item
      → q ≡ ended p → t ≡ moves q (Ack (Err f)) → Err t ≡ judged_as home s kind p r from item
  unfolding judged_as
  fails f q t e own ef eq et = rw (← e, eq-eqb item.seq r.next own, not_accepted f (item_verdict words home s kind p r item) ef, ← named_as f (item_verdict words home s kind p r item) ef, et, eq)

  out_of_turn : (t : Turned) → false ≡ not (same_station from (station_in r)) → (item.seq ≡ r.next → ⊥) → t ≡ keeps (Ask r.next) → Err t ≡ judged_as home s kind p r from item
  unfolding judged_as
  out_of_turn t e other et = rw (← e, ne_eqb item.seq r.next other, et)

pub returns-then-item-self : goal.returns-then-item-self
returns-then-item-self c =
    let a = c.args in
    out_of_turn a.home a.store.now (kind_number a.self.kind) a.self.plan a.self.run (station a.from.system a.from.component) (patterns a.item.plain) _ c.if-ne.ensures c.if-item-self.true (search rules)

pub returns-in-Err : goal.returns-in-Err
returns-in-Err c =
    let a = c.args in
    let r = a.self.run in
    fails a.home a.store.now (kind_number a.self.kind) a.self.plan r (station a.from.system a.from.component) (patterns a.item.plain) c.in-Err.fault _ _ c.if-ne.ensures (omega arith) c.in-Err.ensures c.ended.ensures c.moves.ensures
