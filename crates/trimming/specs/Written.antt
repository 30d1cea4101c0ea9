-- A message's bytes in a buffer, trimmed.
use Rattle.std.specs.Prelude.{ℕ, ◌<◌, ◌≤◌, ◌≡◌, ◌++◌, length, drop}
use Rattle.rules.specs.Payload.{Bytes, trim}

-- "Written payloads drop trailing zero bytes but keep at least one"; "buffer past the reply unchanged": a buffer that held `before` then
-- holds `after`, and n is the length answered
pub record Trimmed (bytes before after : Bytes) (n : ℕ) : Type 0 where
  pub size : n ≡ length (trim bytes)
  pub held : after ≡ trim bytes ++ drop (length (trim bytes)) before

-- a message's bytes are written so into a buffer that has room for all of them; a shorter one stays as it is
pub record Written (bytes before after : Bytes) (n : ℕ) : Type 0 where
  pub fits : length bytes ≤ length before → Trimmed bytes before after n
  pub short : length before < length bytes → (n ≡ 0) × (after ≡ before)
