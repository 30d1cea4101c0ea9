-- `text::numerals::put_after_space` meets its contract: the space, then the number.
use Rattle.adding.specs.Laws.{adds_after}
use Rattle.text.proofs.numerals.put_after_space.Goals as goal

pub returns : goal.returns
returns c = adds_after _ _ c.put_byte.ensures c.put_number.ensures
