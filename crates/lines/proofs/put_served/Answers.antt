-- `lines::put_served` meets its contract: the parts of the line in their order.
use Rattle.adding.specs.Laws.{adds_both, adds_after}
use Rattle.lines.specs.Lines.{served_line}
use Rattle.lines.proofs.put_served.Goals as goal

pub returns : goal.returns
unfolding served_line
returns c =
    adds_both c.put_begun.ensures
    (adds_both (adds_after 32 _ c.put_byte.ensures c.put_reply.ensures) (rw c.untouched.ensures at c.put_end.ensures))
