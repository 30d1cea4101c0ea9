-- The library's number of those bytes is the rules'.
use Rattle.std.proofs.Common.{◌∙◌}
use Rattle.fields.proofs.Bytes.{same_number, read_eight}
use Rattle.fields.proofs.u64_at.Goals as goal

pub returns : goal.returns
returns c = let b = c.bytes_at.result in c.from_le_bytes.ensures ∙ read_eight b ∙ same_number 8 c.args.at b c.args.p.now c.bytes_at.ensures
