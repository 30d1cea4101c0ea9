-- `adding::parts::first` meets its contract.
use Rattle.adding.specs.Parts.{front_of}
use Rattle.adding.proofs.parts.first.Goals as goal

pub returns : goal.returns
returns g c = let a = c.args in front_of a.n c.min-end.result a.list.now c.min-end.ensures
