-- `adding::parts::part` meets its contract.
use Rattle.adding.specs.Parts.{part_of}
use Rattle.adding.proofs.parts.part.Goals as goal

pub returns : goal.returns
returns g c = let a = c.args in part_of a.from c.within-start.result a.n a.list.now _ c.within-start.ensures.value c.first.ensures
