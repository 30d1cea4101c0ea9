-- The tests are the rules' own, that of the task by its function.
use Rattle.ranges.proofs.run_ranged.Goals as goal

pub returns : goal.returns
returns c = rw c.task_ranged.ensures
