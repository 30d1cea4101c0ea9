-- The ACK's message is written.
use borrow.Author.Rules.{rules}
use Rattle.answers.proofs.ack_of.Goals as goal

pub returns : goal.returns
returns c = search rules
