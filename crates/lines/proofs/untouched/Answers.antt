-- `lines::untouched` meets its contract: the bytes from `len` on are all of those behind it.
use Rattle.std.proofs.Common.{ap, ◌∙◌}
use Rattle.lines.specs.Lines.{untouched}
use Rattle.lines.proofs.Ways.{rest_of}
use Rattle.lines.proofs.untouched.Goals as goal

pub returns : goal.returns
returns c =
    let a = c.args in
    c.filled.ensures ∙ ap untouched (c.part.ensures ∙ rest_of a.len a.reply.now)
