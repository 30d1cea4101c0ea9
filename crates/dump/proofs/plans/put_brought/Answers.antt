-- `dump::plans::put_brought` meets its contract, of an upload; the check finds the rest.
use Rattle.std.proofs.Common.{Option}
use Rattle.adding.specs.Laws.{adds_as}
use Rattle.plan.specs.declared.Run.{Run}
use Rattle.limits.specs.Kinds.{kind_number}
use Rattle.dump.specs.Plans.{brought_lines}
use Rattle.dump.proofs.plans.put_brought.Goals as goal

pub returns-in-Some : goal.returns-in-Some
unfolding brought_lines
returns-in-Some c =
    let a = c.args in
    adds_as (λ (u : Option Run). brought_lines (kind_number a.kind) a.half u a.store.now) _ _ c.in-Some.is c.put_items.ensures
