-- The outcome of a move that was done, and of one that was refused.
use borrow.Author.Rules.{rules}
use Rattle.moves.proofs.Moved.outcome.Goals as goal

pub returns-in-Ok : goal.returns-in-Ok
returns-in-Ok c = rw c.in-Ok.is

pub returns-in-Err : goal.returns-in-Err
returns-in-Err c = search rules
