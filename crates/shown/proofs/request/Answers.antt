-- Below the plan's length the fetched item is written, else ACK 13.
use borrow.Author.Rules.{rules}
use Rattle.record_steps.specs.Shown.{request_answer}
use Rattle.shown.proofs.request.Goals as goal

pub returns-then-plan-seq : goal.returns-then-plan-seq
unfolding request_answer
returns-then-plan-seq c = search rules

pub returns : goal.returns
unfolding request_answer
returns c = search rules
