-- `host::item_word` meets its contract, for each half; the check finds the rest.
use Rattle.host.proofs.Ways.{other_half, own_half}
use borrow.Author.Rules.{rules}
use Rattle.host.proofs.item_word.Goals as goal

pub returns-then-other : goal.returns-then-other
returns-then-other c = search (other_half, rules)

pub returns : goal.returns
returns c = search (own_half, rules)
