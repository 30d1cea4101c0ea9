-- `adding::parts::within` meets its contract, by what `min` says.
use Rattle.adding.proofs.parts.within.Goals as goal

pub returns-clause-value : goal.returns-clause-value
returns-clause-value g c = c.min.ensures
