-- By what the two calls ensure.
use Rattle.upload.proofs.turns.opened.Goals as goal

pub returns : goal.returns
returns c = cc
