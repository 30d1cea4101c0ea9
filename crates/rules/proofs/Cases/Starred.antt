-- The table of `specs/Cases/Starred.antt`: one statement.
use Rattle.std.specs.Prelude.{refl}
use Rattle.rules.specs.Cases.{computing, Hold}
use Rattle.rules.specs.Cases.Starred.{starred}
use Rattle.rules.proofs.Cases.Bounds.{bounds_hold}

-- Every starred case holds.
pub starred_hold : Hold starred
unfolding computing
starred_hold = let earlier = bounds_hold in refl
