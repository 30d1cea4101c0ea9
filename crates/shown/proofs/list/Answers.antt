-- COUNT is written with the plan's length and the number shown.
use borrow.Author.Rules.{rules}
use Rattle.record_steps.specs.Shown.{list_answer}
use Rattle.shown.proofs.list.Goals as goal

pub returns : goal.returns
unfolding list_answer
returns c = search rules
