-- `streams::reading::read_on` meets its contract: what is unread is moved to the start, and stays when more is read behind it.
use borrow.Author.Rules.{rules}
use Rattle.streams.proofs.Moving.{enough_unread, read_more, fits_behind}
use Rattle.streams.proofs.reading.read_on.Goals as goal

pub returns-then-enough : goal.returns-then-enough
returns-then-enough g c = search (enough_unread, rules)

pub read_behind-more-requires : goal.read_behind-more-requires
read_behind-more-requires g c = search (fits_behind, rules)

pub returns : goal.returns
returns g c = let a = c.args in
    read_more a.buffer.now a.unread.at a.unread.end a.n c.enough.result c.enough.ensures _ _ _ _ c.if-enough.false c.move_front-kept.ensures c.read_behind-more.ensures
