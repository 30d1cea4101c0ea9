-- `streams::reading::move_front` meets its contract.
use borrow.Author.Rules.{rules}
use Rattle.streams.proofs.Moving.{moved_none, moved_all}
use Rattle.streams.proofs.reading.move_front.Goals as goal

pub returns-then-stop-at : goal.returns-then-stop-at
returns-then-stop-at c = search (moved_none, rules)

pub returns : goal.returns
returns c = let a = c.args in
    moved_all a.buffer.now a.unread.at a.unread.end c.within-stop.result c.within-stop.ensures.value _ c.if-stop-at.false c.copy_within.ensures.after c.copy_within.ensures.len
