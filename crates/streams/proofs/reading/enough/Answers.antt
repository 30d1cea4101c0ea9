-- `streams::reading::enough` meets its contract, by its tests.
use borrow.Author.Rules.{rules}
use Rattle.streams.proofs.Moving.{not_enough, is_enough}
use Rattle.streams.proofs.reading.enough.Goals as goal

pub returns-then-unread : goal.returns-then-unread
returns-then-unread c = search (not_enough, rules)

pub returns : goal.returns
returns c = search (is_enough, rules)
