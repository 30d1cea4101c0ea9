-- `command_words::put_numbers` meets its contract: the parts of the line in their order.
use Rattle.adding.specs.Laws.{adds_both}
use Rattle.command_words.proofs.put_numbers.Goals as goal

pub returns : goal.returns
returns c = adds_both (adds_both c.put.ensures c.put_numbers.ensures) c.put_byte.ensures
