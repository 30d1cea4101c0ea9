-- The item's words are in the store, and its command is there.
use mathlib.Core.Path.{◌∙◌}
use Rattle.places.proofs.Reading.{in_store, command_there}
use Rattle.places.proofs.items.Items.command.Goals as goal

pub command_at-requires : goal.command_at-requires
command_at-requires c = in_store c.args.self c.args.n c.place_at.result c.requires c.place_at.ensures

pub returns : goal.returns
returns c = c.command_at.ensures ∙ command_there c.args.self c.args.n c.place_at.result c.requires c.place_at.ensures
