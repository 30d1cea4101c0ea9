-- `rows::put_row` meets its contract: the numbers, then the line's end.
use Rattle.adding.specs.Laws.{adds_both}
use Rattle.rows.proofs.put_row.Goals as goal

pub returns : goal.returns
returns c = adds_both c.put_begun.ensures c.put_byte.ensures
