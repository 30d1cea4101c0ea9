-- The word is the first.
use mathlib.Core.Path.{refl}
use Rattle.places.proofs.param1_at.Goals as goal

pub returns : goal.returns
returns c = refl
