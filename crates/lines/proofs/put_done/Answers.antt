-- `lines::put_done` meets its contract: the outcome, then the command.
use Rattle.adding.specs.Laws.{adds_both}
use Rattle.lines.specs.Lines.{done_line}
use Rattle.lines.proofs.put_done.Goals as goal

pub returns : goal.returns
unfolding done_line
returns c = adds_both c.put_begun.ensures c.put_command.ensures
