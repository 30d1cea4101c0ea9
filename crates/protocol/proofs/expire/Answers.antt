-- The turn is the timer's, and its answer goes to the upload's station.
use borrow.Author.Rules.{rules}
use Rattle.record_steps.specs.Doing.{timer_done}
use Rattle.protocol.proofs.expire.Goals as goal

pub returns : goal.returns
unfolding timer_done
returns c store = search rules
