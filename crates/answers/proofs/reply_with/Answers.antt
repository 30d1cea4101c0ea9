-- The message is written, and the buffer is long enough for it; its id is that of its type.
use Prim.Native.Nat.{ℕ, ◌≤◌}
use mathlib.Core.Path.{◌≡◌, sym, ◌∙◌}
use lib.ListN.{length}
use Rattle.std.specs.Prelude.{Some}
use Rattle.rules.specs.Limits.{reply_bytes_min}
use Rattle.rules.specs.Payload.{Bytes}
use Rattle.rules.specs.Messages.{Message, id_of}
use Rattle.rules.specs.Step.{says}
use Rattle.reply.specs.Written.{Wrote}
use Rattle.answers.specs.Answered.{Spoken, said, written_spoken}
use Rattle.answers.proofs.reply_with.Goals as goal

with_id : (m : Message) (b b' : Bytes) (n id : ℕ) → reply_bytes_min ≤ length b → Wrote m b b' n → id ≡ id_of m → Spoken (says m) b b' (Some (said id n))
with_id m b b' n id enough w e = rw e (written_spoken m b b' n enough w)

pub returns : goal.returns
returns g c = with_id _ _ _ _ _ c.requires c.write.ensures (c.ID.ensures ∙ sym (g.met.M.Written.id_is c.args.message))
