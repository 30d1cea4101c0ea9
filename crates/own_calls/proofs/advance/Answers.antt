-- A refused call by its refusal; any other by the next command, and the item at which it stands.
use borrow.Author.Rules.{rules}
use Rattle.own_calls.proofs.Ways.{DoneTaken, done_refused, done_taken, done_stands, done_stays}
use Rattle.own_calls.proofs.advance.Goals as goal

pub returns-in-Err : goal.returns-in-Err
returns-in-Err c = search (done_refused, rules)

pub next-found-requires : goal.next-found-requires
next-found-requires c =
    let t : DoneTaken c.args.state c.args.store.now = search (done_taken, rules) in
    (t.long, t.len, t.current)

pub returns-in-Some : goal.returns-in-Some
returns-in-Some c =
    let t : DoneTaken c.args.state c.args.store.now = search (done_taken, rules) in
    search (done_stands, t, rules)

pub returns-in_default-stand : goal.returns-in_default-stand
returns-in_default-stand c =
    let t : DoneTaken c.args.state c.args.store.now = search (done_taken, rules) in
    search (done_stays, t, rules)
