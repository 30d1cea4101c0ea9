-- `message_table::own_bytes` meets its contract: as many of the payload's first bytes stand in the place of zeros as it has, up to the full length.
use Rattle.message_table.proofs.Numbers.{filled}
use borrow.Author.Rules.{rules}
use Rattle.message_table.proofs.own_bytes.Goals as goal

pub returns : goal.returns
returns c = search (filled, rules)
