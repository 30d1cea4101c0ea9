-- Where no other station has a covered upload.
use borrow.Author.Rules.{rules}
use Rattle.record_steps.specs.Doing.{clear_done}
use Rattle.protocol.proofs.clears.clear.Goals as goal

pub returns : goal.returns
unfolding clear_done
returns c store = search rules
