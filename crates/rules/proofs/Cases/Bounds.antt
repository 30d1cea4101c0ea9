-- The table of `specs/Cases/Bounds.antt`: one statement.
use Rattle.std.specs.Prelude.{refl}
use Rattle.rules.specs.Cases.{computing, Hold}
use Rattle.rules.specs.Cases.Bounds.{bounds}
use Rattle.rules.proofs.Cases.Readings.{readings_hold}

-- Every case holds.
pub bounds_hold : Hold bounds
unfolding computing
bounds_hold = let earlier = readings_hold in refl
