-- `dump::plans::put_upload` meets its contract, with and without an upload.
use Rattle.adding.specs.Laws.{adds_both}
use Rattle.dump.specs.Plans.{upload_line}
use Rattle.dump.proofs.plans.put_upload.Goals as goal

pub returns-in-None : goal.returns-in-None
unfolding upload_line
returns-in-None c = rw c.in-None.is (adds_both c.put_begun.ensures c.put.ensures)

pub returns-in-Some : goal.returns-in-Some
unfolding upload_line
returns-in-Some c = rw c.in-Some.is (adds_both c.put_begun-in-Some.ensures c.put_part.ensures)
