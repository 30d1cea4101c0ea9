-- `command_words::put_value` meets its contract: the parts of the line in their order.
use Rattle.command_words.proofs.Ways.{value_line}
use Rattle.command_words.proofs.put_value.Goals as goal

pub returns : goal.returns
returns c = value_line c.args.word.now _ c.args.n c.args.x c.value_bytes-bytes.ensures c.put_line.ensures
