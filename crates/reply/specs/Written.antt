-- A reply in a buffer.
use Rattle.std.specs.Prelude.{ℕ, ◌≤◌, ◌≡◌, length, take}
use Rattle.rules.specs.Payload.{Bytes}
use Rattle.rules.specs.Messages.{Message, id_of, encode, decode}
use Rattle.trimming.specs.Written.{Written}

-- a message's bytes are written, and "What we write reads back as what was meant": the bytes that are answered for are read as the message
pub record Wrote (m : Message) (before after : Bytes) (n : ℕ) : Type 0 where
  pub written : Written (encode m) before after n
  pub reads : length (encode m) ≤ length before → decode (id_of m) (take n after) ≡ m

-- lent bytes that are taken only in the asked length: then this is so; of others nothing is written, and 0 is answered
pub record Taken (asked : ℕ) (lent : Bytes) (this : Type 0) (before after : Bytes) (n : ℕ) : Type 0 where
  pub whole : length lent ≡ asked → this
  pub other : (length lent ≡ asked → ⊥) → (n ≡ 0) × (after ≡ before)

module _ (asked : ℕ) (lent : Bytes) (this : Type 0) (before after : Bytes) (n : ℕ) where
  pub taken : length lent ≡ asked → this → Taken asked lent this before after n
  taken is so = record { whole = λ _. so; other = λ not. absurd (not is) }

  pub not_taken : (length lent ≡ asked → ⊥) → n ≡ 0 → after ≡ before → Taken asked lent this before after n
  not_taken not none same = record { whole = λ is. absurd (not is); other = λ _. (none, same) }
