-- What the library's search from the back found.
use Rattle.std.proofs.Common.{arith}
use Rattle.std.proofs.lemmas.Grind.{common_steps}
use Rattle.trimming.proofs.last_other.Goals as goal

pub returns : goal.returns
returns c = grind (arith, common_steps)
