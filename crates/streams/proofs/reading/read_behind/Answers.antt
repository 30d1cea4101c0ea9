-- `streams::reading::read_behind` meets its contract: what stands before the part that is read into stays.
use Rattle.streams.proofs.Moving.{read_behind}
use borrow.Author.Rules.{rules}
use Rattle.streams.proofs.reading.read_behind.Goals as goal

pub returns : goal.returns
returns g c = search (read_behind, rules)
