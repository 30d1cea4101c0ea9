-- The ranges of the state's numbers are the rules' ranges of what it shows.
use Rattle.ranges.specs.Ranges.{in_range_lem}
use borrow.Author.Rules.{rules}
use Rattle.dump.proofs.in_range.Goals as goal

pub returns : goal.returns
returns c store = search (in_range_lem, rules)
