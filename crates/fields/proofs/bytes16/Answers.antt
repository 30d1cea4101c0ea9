-- The library's bytes of the number are the rules'.
use Rattle.std.proofs.Common.{◌∙◌}
use Rattle.fields.proofs.Bytes.{wrote_two}
use Rattle.fields.proofs.bytes16.Goals as goal

pub returns : goal.returns
returns c = c.to_le_bytes.ensures ∙ wrote_two c.args.n
