-- For 255 every plan is emptied.
use borrow.Author.Rules.{rules}
use Rattle.protocol.proofs.clears.empties.Goals as goal

pub returns-in-Every : goal.returns-in-Every
returns-in-Every c = search rules
