-- The number is that of its function.
use Rattle.upload.proofs.updates.replaced.Goals as goal

pub returns : goal.returns
returns c = rw c.next_number.ensures
