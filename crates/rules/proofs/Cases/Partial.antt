-- The table of `specs/Cases/Partial.antt`: one statement.
use Rattle.std.specs.Prelude.{refl}
use Rattle.rules.specs.Cases.{computing, Hold}
use Rattle.rules.specs.Cases.Partial.{partials}
use Rattle.rules.proofs.Cases.Bounds.{bounds_hold}

-- Every case holds.
pub partials_hold : Hold partials
unfolding computing
partials_hold = let earlier = bounds_hold in refl
