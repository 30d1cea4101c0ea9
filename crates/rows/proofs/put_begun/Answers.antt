-- `rows::put_begun` meets its contract: the letter, then the numbers.
use Rattle.adding.specs.Laws.{adds_after}
use Rattle.rows.proofs.put_begun.Goals as goal

pub returns : goal.returns
returns c = adds_after _ _ c.put_byte.ensures c.put_numbers.ensures
