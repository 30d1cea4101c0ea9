-- `rows::put_line` meets its contract: the parts of the line in their order.
use Rattle.adding.specs.Laws.{adds_both}
use Rattle.rows.proofs.put_line.Goals as goal

pub returns : goal.returns
returns c = adds_both c.put.ensures (adds_both c.put_numbers.ensures (adds_both c.put-2.ensures (adds_both c.put_hex.ensures c.put-3.ensures)))
