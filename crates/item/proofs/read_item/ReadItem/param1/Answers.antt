-- The value is its pattern's, by what the item tells.
use Rattle.std.proofs.Common.{ap}
use Rattle.item.specs.declared.Item.{Item}
use Rattle.item.proofs.read_item.ReadItem.param1.Goals as goal

pub returns : goal.returns
returns c = ap (λ (i : Item). i.param1) c.args.self.values
