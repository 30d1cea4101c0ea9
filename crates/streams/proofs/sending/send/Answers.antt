-- `streams::sending::send` meets its contract, by its test.
use Rattle.std.proofs.Common.{◌∙◌}
use Rattle.adding.specs.Added.{filled}
use Rattle.streams.specs.Laws.{sent_none, sent_all}
use Rattle.streams.proofs.sending.send.Goals as goal

pub returns-then-room-clause-value : goal.returns-then-room-clause-value
returns-then-room-clause-value g c =
    c.clear.ensures.text ∙ sent_all (filled c.args.text.now) c.args.room (rw c.room.ensures at c.if-room.true)

pub returns-else-room-clause-value : goal.returns-else-room-clause-value
returns-else-room-clause-value g c = sent_none (filled c.args.text.now) c.args.room (rw c.room.ensures at c.if-room.false)
