-- `dump::plans::put_kind` meets its contract: the plan, then the items of both halves.
use Rattle.std.proofs.Common.{◌≡◌, ◌-◌, arith}
use Rattle.adding.specs.Laws.{adds_both}
use Rattle.dump.specs.Plans.{kind_text}
use Rattle.dump.proofs.plans.put_kind.Goals as goal

pub returns : goal.returns
unfolding kind_text
returns c =
    let all : c.args.plan.len - 0 ≡ c.args.plan.len = omega arith in
    adds_both (rw c.number.ensures at c.put_plan.ensures) (adds_both (rw all at c.put_items.ensures) c.put_brought.ensures)
