-- `dump::plans::put_plan` meets its contract: the plan's line, then the upload's.
use Rattle.adding.specs.Laws.{adds_both}
use Rattle.dump.specs.Plans.{plan_line}
use Rattle.dump.proofs.plans.put_plan.Goals as goal

pub returns : goal.returns
unfolding plan_line
returns c = rw (← c.number_shown.ensures, ← c.half_mark.ensures) (adds_both c.put_begun.ensures (adds_both c.put.ensures c.put_upload.ensures))
