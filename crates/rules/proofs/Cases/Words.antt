-- The table of `specs/Cases/Words.antt`: one statement.
use Rattle.std.specs.Prelude.{refl}
use Rattle.rules.specs.Cases.{computing, Hold}
use Rattle.rules.specs.Cases.Words.{words}

-- Every case holds.
pub words_hold : Hold words
unfolding computing
words_hold = refl
