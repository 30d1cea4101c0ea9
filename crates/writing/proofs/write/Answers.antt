-- `writing::write` meets its contract: the bytes are copied where all of them fit.
use Rattle.writing.proofs.Ways.{no_place, no_room, copied}
use borrow.Author.Rules.{rules}
use Rattle.writing.proofs.write.Goals as goal

pub returns-then-store-at : goal.returns-then-store-at
returns-then-store-at c = search (no_place, rules)

pub returns-then-store-at-2 : goal.returns-then-store-at-2
returns-then-store-at-2 c = search (no_room, rules)

pub returns : goal.returns
returns c =
    let a = c.args in
    copied a.store.now a.at a.payload.now c.if-store-at.false c.if-store-at-2.false _ c.copy_from_slice.ensures.after
