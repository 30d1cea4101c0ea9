-- `dump::plans::put_part` meets its contract: of a partial upload a space and a row are told.
use Rattle.adding.specs.Laws.{adds_after}
use Rattle.dump.specs.Plans.{part_text}
use Rattle.dump.proofs.plans.put_part.Goals as goal

pub returns-then-partial : goal.returns-then-partial
unfolding part_text
returns-then-partial c = rw c.if-partial.true (adds_after 32 _ c.put_byte.ensures c.put_row.ensures)
