-- By the tests on the way: each decides one `cond` of `timer_turned`.
use Rattle.std.proofs.Common.{rules}
use Rattle.upload.specs.Turns.{timer_turned}
use Rattle.upload.proofs.turns.on_expiry.Goals as goal

pub returns : goal.returns
unfolding timer_turned
returns c = search rules
