-- The table of `specs/Cases/Guards.antt`: one statement.
use Rattle.std.specs.Prelude.{refl}
use Rattle.rules.specs.Cases.{computing, Hold}
use Rattle.rules.specs.Cases.Guards.{guards}

-- Every case holds.
pub guards_hold : Hold guards
unfolding computing
guards_hold = refl
