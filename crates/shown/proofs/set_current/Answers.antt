-- Below the flight length CURRENT is written, with the numbers shown, and the item chosen; else the text that there is none.
use borrow.Author.Rules.{rules}
use Rattle.record_steps.specs.Shown.{choose_effect, choose_answer}
use Rattle.shown.proofs.set_current.Goals as goal

pub returns-then-seq-flight : goal.returns-then-seq-flight
unfolding choose_effect choose_answer
returns-then-seq-flight c = search rules

pub returns : goal.returns
unfolding choose_effect choose_answer
returns c = search rules
