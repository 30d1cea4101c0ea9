-- The param is its pattern's value, by what the item tells.
use Rattle.std.proofs.Common.{ap, ◌∙◌}
use Rattle.rules.specs.Values.{whole_of, whole_number}
use Rattle.item.specs.declared.Item.{Item}
use Rattle.item.proofs.read_item.ReadItem.number1.Goals as goal

pub returns : goal.returns
returns c = c.number_of.ensures ∙ ap (λ (i : Item). whole_number (whole_of i.param1)) c.args.self.values
