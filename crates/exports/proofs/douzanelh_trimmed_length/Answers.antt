-- `exports::douzanelh_trimmed_length` meets its contract: it is what trimming finds.
use Rattle.exports.proofs.douzanelh_trimmed_length.Goals as goal

pub returns : goal.returns
returns c = c.trimmed_len.ensures
