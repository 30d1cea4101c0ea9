-- `exports::douzanelh_write_statustext` meets its contract: it is what the writer of a lent text writes.
use Rattle.exports.proofs.douzanelh_write_statustext.Goals as goal

pub returns : goal.returns
returns c = c.write_text.ensures
