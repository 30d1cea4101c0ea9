-- The library's number of those bytes is the rules'.
use Rattle.std.proofs.Common.{◌∙◌}
use Rattle.fields.proofs.Bytes.{same_number, read_four}
use Rattle.fields.proofs.u32_at.Goals as goal

pub returns : goal.returns
returns c = let b = c.bytes_at.result in c.from_le_bytes.ensures ∙ read_four b ∙ same_number 4 c.args.at b c.args.p.now c.bytes_at.ensures
