-- What a handler does to the state, and the rules' answer with the reply in the buffer.
use Rattle.std.specs.Prelude.{ℕ, ◌≤◌, ◌≡◌, refl, ◌++◌, length, take, drop, Option, None, Some}
use Rattle.std.proofs.Common.{arith}
use Rattle.rules.specs.Limits.{replied, no_reply, reply_bytes_min}
use Rattle.rules.specs.Payload.{Bytes}
use Rattle.rules.specs.Messages.{Message, id_of, encode}
use Rattle.rule_laws.specs.Layout.{encode_fits}
use Rattle.rules.specs.Step.{Answer, silent, says, outcome_of, reply_id, reply_bytes, ReadsBack}
use Rattle.upload.specs.declared.Effect.{Effect}
use Rattle.trimming.specs.Written.{Trimmed}
use Rattle.reply.specs.Written.{Wrote}
use Rattle.answers.specs.declared.Reply.{Reply}
use Rattle.answers.specs.declared.Handled.{Handled}

-- the outcome of a call that is not refused, and the id and the length that it returns
abbrev pub outcome_in : Option Reply → ℕ
outcome_in None = no_reply
outcome_in (Some r) = replied

abbrev pub id_in : Option Reply → ℕ
id_in None = 0
id_in (Some r) = r.id

abbrev pub len_in : Option Reply → ℕ
len_in None = 0
len_in (Some r) = r.len

-- the buffer held b and then holds b': "Outcome 0 also returns the reply's id and length; every other returns 0 for both"; "buffer past
-- the reply unchanged"; and the reply reads back as what is said
pub record Spoken (a : Answer) (b b' : Bytes) (r : Option Reply) : Type 0 where
  pub outcome : outcome_in r ≡ outcome_of a
  pub id : id_in r ≡ reply_id a
  pub len : len_in r ≡ length (reply_bytes a)
  pub buffer : b' ≡ reply_bytes a ++ drop (length (reply_bytes a)) b
  pub reads : ReadsBack a (id_in r) (take (len_in r) b')

-- the same with the effect
pub record Handles (e : Effect) (a : Answer) (b b' : Bytes) (r : Handled) : Type 0 where
  pub effect : r.effect ≡ e
  pub spoken : Spoken a b b' r.reply

-- ---- laws

abbrev pub said : (id len : ℕ) → Reply
said id len = record { id = id; len = len }

-- where nothing is said, nothing is written
pub spoken_silent : (b : Bytes) → Spoken silent b b None
spoken_silent b = record { outcome = refl; id = refl; len = refl; buffer = refl; reads = tt }

-- a message that was written into a reply buffer is the answer
pub written_spoken : (m : Message) (b b' : Bytes) (n : ℕ) → reply_bytes_min ≤ length b → Wrote m b b' n → Spoken (says m) b b' (Some (said (id_of m) n))
written_spoken m b b' n enough w =
    let room : length (encode m) ≤ length b = omega (arith, encode_fits m) in
    let trimmed : Trimmed (encode m) b b' n = w.written.fits room in
    record { outcome = refl; id = refl; len = trimmed.size; buffer = trimmed.held; reads = w.reads room }
