-- A message's bytes, all of them.
use Rattle.std.specs.Prelude.{ℕ, ◌<◌, ◌≡◌, [], ◌∷◌, get_or}
use Rattle.std.proofs.Common.{sym, ap, mod-eq_of_lt}
use Rattle.rules.specs.Payload.{Bytes, bytes_of}
use Rattle.rules.specs.Messages.{Message, encode}
use Rattle.rule_laws.specs.Fitting.{Fits}

-- the bytes of a message, all of them, and that its numbers fit their fields
pub record BytesOf (m : Message) (bytes : Bytes) : Type 0 where
  pub all : bytes ≡ encode m
  pub fits : Fits m

-- a byte is its own one byte
pub one_byte : (n : ℕ) → n < 256 → n ∷ [] ≡ bytes_of 1 n
unfolding bytes_of
one_byte n h = λ i. sym (mod-eq_of_lt h) i ∷ []

-- the bytes of a number, one by one
pub two_bytes : (n : ℕ) {b : Bytes} → b ≡ bytes_of 2 n → get_or b 0 0 ∷ get_or b 1 0 ∷ [] ≡ bytes_of 2 n
unfolding bytes_of
two_bytes n e = ap (λ (l : Bytes). get_or l 0 0 ∷ get_or l 1 0 ∷ []) e

pub four_bytes : (n : ℕ) {b : Bytes} → b ≡ bytes_of 4 n → get_or b 0 0 ∷ get_or b 1 0 ∷ get_or b 2 0 ∷ get_or b 3 0 ∷ [] ≡ bytes_of 4 n
unfolding bytes_of
four_bytes n e = ap (λ (l : Bytes). get_or l 0 0 ∷ get_or l 1 0 ∷ get_or l 2 0 ∷ get_or l 3 0 ∷ []) e
