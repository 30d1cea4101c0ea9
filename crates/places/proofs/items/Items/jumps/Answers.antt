-- Counting by the command of a jump is counting jumps.
use mathlib.Core.Path.{◌∙◌}
use Rattle.places.specs.Stored.{jumps_are}
use Rattle.places.proofs.items.Items.jumps.Goals as goal

pub returns : goal.returns
returns c = c.with_command.ensures ∙ jumps_are _
