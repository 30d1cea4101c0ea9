-- The table of `specs/Cases/Readings.antt`: one statement.
use Rattle.std.specs.Prelude.{refl}
use Rattle.rules.specs.Cases.{computing, Hold}
use Rattle.rules.specs.Cases.Readings.{readings}
use Rattle.rules.proofs.Cases.Guards.{guards_hold}

-- Every case holds.
pub readings_hold : Hold readings
unfolding computing
readings_hold = let earlier = guards_hold in refl
