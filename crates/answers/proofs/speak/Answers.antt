-- An ACK of any result is its function's; an item is asked for by its message.
use borrow.Author.Rules.{rules}
use Rattle.answers.proofs.speak.Goals as goal

pub returns-in-AckOf : goal.returns-in-AckOf
returns-in-AckOf c = search rules

pub returns-in-Ask : goal.returns-in-Ask
returns-in-Ask c = search rules
