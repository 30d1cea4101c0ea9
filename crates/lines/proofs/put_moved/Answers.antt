-- `lines::put_moved` meets its contract: the outcome as a row.
use Rattle.lines.specs.Lines.{moved_line}
use Rattle.lines.proofs.put_moved.Goals as goal

pub returns : goal.returns
unfolding moved_line
returns c = c.put_row.ensures
