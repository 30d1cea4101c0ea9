-- The bytes are those of `item::item_bytes`.
use Rattle.payloads.proofs.ItemIntWritten.bytes.Goals as goal

pub returns-clause-all : goal.returns-clause-all
returns-clause-all c = c.item_bytes.ensures
