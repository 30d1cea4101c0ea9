-- 50 characters are the struct's text.
use Rattle.std.proofs.Common.{ℕ, List, subst}
use Rattle.rules.specs.Messages.{statustext}
use Rattle.reply.specs.Written.{Wrote, taken}
use Rattle.reply.proofs.write_text.Goals as goal

pub returns : goal.returns
returns c = let a = c.args in
    let whole = c.in-Ok.ensures.1 in
    let wrote = c.write in
    let means : List ℕ → Type 0 = λ (l : List ℕ). Wrote (statustext a.severity l a.id a.chunk) a.out.now wrote.new.out wrote.result in
    taken _ _ _ _ _ _ whole.long (subst means whole.same wrote.ensures)
