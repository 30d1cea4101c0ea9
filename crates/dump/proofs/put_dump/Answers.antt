-- `dump::put_dump` meets its contract, in range and out of it.
use Rattle.adding.specs.Added.{each}
use Rattle.adding.specs.Laws.{adds_both}
use Rattle.text.specs.Digits.{digit, decimal_in}
use Rattle.dump.specs.Dumps.{dump_text}
use Rattle.dump.proofs.put_dump.Goals as goal

pub returns-then-not-in_range : goal.returns-then-not-in_range
unfolding dump_text each decimal_in digit
returns-then-not-in_range c =
    rw (← c.in_range.ensures c.args.store.now, c.if-not-in_range.true) (rw c.code.ensures at c.put_row.ensures)

pub returns : goal.returns
unfolding dump_text each decimal_in digit
returns c = rw (← c.in_range.ensures c.args.store.now, c.if-not-in_range.false) (adds_both c.put_row-2.ensures c.put_state.ensures)
