-- The table of `specs/Cases/Home.antt`: one statement.
use Rattle.std.specs.Prelude.{refl}
use Rattle.rules.specs.Cases.{computing, Hold}
use Rattle.rules.specs.Cases.Home.{homes}
use Rattle.rules.proofs.Cases.Bounds.{bounds_hold}

-- Every case holds.
pub homes_hold : Hold homes
unfolding computing
homes_hold = let earlier = bounds_hold in refl
