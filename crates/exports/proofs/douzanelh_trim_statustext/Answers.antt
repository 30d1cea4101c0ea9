-- `exports::douzanelh_trim_statustext` meets its contract: it is what trimming writes of a STATUSTEXT's bytes.
use Rattle.exports.proofs.douzanelh_trim_statustext.Goals as goal

pub returns : goal.returns
returns c = c.write_bytes.ensures
