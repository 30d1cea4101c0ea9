-- `dump::put_current` meets its contract: the parts of the line in their order.
use Rattle.adding.specs.Laws.{adds_both}
use Rattle.dump.specs.Dumps.{current_line}
use Rattle.dump.proofs.Ways.{flag_byte}
use Rattle.dump.proofs.put_current.Goals as goal

pub returns : goal.returns
unfolding current_line
returns c = rw (← flag_byte c.args.begun) (adds_both c.put_begun.ensures (adds_both c.put_numbers.ensures c.put_byte.ensures))
