-- The word behind the first seven is the last, and the command is in it.
use mathlib.Core.Path.{refl}
use Rattle.places.proofs.command_at.Goals as goal

pub returns : goal.returns
returns c = refl
