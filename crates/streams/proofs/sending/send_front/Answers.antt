-- `streams::sending::send_front` meets its contract, by its test.
use Rattle.streams.specs.Laws.{front_kept, front_sent}
use Rattle.streams.proofs.sending.send_front.Goals as goal

pub returns-then-room-out : goal.returns-then-room-out
returns-then-room-out g c = let a = c.args in
    front_kept a.out.now a.at a.room c.within-end.result c.within-end.ensures.value c.if-room-out.true

pub returns : goal.returns
returns g c = let a = c.args in
    front_sent a.out.now a.at a.room c.within-end.result c.within-end.ensures.value c.if-room-out.false
