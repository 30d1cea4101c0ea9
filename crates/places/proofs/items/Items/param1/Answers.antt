-- The item's words are in the store, and the first is its param 1: a word is below 2^32 by its type.
use mathlib.Core.Path.{◌∙◌}
use Rattle.std.proofs.Common.{rules}
use Rattle.places.proofs.Reading.{in_store, param1_there}
use Rattle.places.proofs.items.Items.param1.Goals as goal

pub param1_at-requires : goal.param1_at-requires
param1_at-requires c = in_store c.args.self c.args.n c.place_at.result c.requires c.place_at.ensures

pub returns : goal.returns
returns c = c.param1_at.ensures ∙ param1_there c.args.self c.args.n c.place_at.result c.requires c.place_at.ensures (search rules)
