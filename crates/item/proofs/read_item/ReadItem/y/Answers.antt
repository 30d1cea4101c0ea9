-- The value is its pattern's, by what the item tells; an i32 is read back from its bits as itself.
use Rattle.std.proofs.Common.{ap, ◌∙◌, rules}
use Rattle.values.specs.Integers.{back_is}
use Rattle.item.specs.declared.Item.{Item}
use Rattle.item.proofs.read_item.ReadItem.y.Goals as goal

pub returns : goal.returns
returns c = back_is c.args.self.plain.y (search rules) ∙ ap (λ (i : Item). i.y) c.args.self.values
