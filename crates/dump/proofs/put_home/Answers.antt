-- `dump::put_home` meets its contract, of the setting; the check finds the rest.
use Rattle.dump.specs.Dumps.{home_line}
use Rattle.dump.proofs.put_home.Goals as goal

pub returns-then-home : goal.returns-then-home
unfolding home_line
returns-then-home c = rw c.if-home.true c.put_row.ensures
