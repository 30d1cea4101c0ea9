-- `text::numerals::put_number` meets its contract: the library's digits are those of the rows.
use Rattle.text.specs.Numbers.{same_decimal}
use Rattle.text.proofs.numerals.put_number.Goals as goal

pub returns : goal.returns
returns c = rw (same_decimal c.args.n c.ranges.n.fits) at (rw (c.as_bytes.ensures.value, c.format.ensures.text) at c.put.ensures)
