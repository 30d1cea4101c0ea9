-- By the tests on the way: each decides one `cond` of `part_turned`.
use Rattle.std.proofs.Common.{rules}
use Rattle.upload.specs.Turns.{part_turned}
use Rattle.upload.proofs.turns.on_partial.Goals as goal

pub returns-then-others_upload : goal.returns-then-others_upload
unfolding part_turned
returns-then-others_upload c = search rules

pub returns-then-not-part_ok : goal.returns-then-not-part_ok
unfolding part_turned
returns-then-not-part_ok c = search rules
