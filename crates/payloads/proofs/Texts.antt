-- A text in a message: its characters are its own bytes, and fit their fields.
use Prim.Native.Nat.{ℕ, zero, suc, ◌<◌}
use mathlib.Core.Path.{◌≡◌, refl, sym}
use mathlib.Core.List.{List, [], ◌∷◌, ◌++◌}
use native.Mathlib.Omega.{arith}
use lib.ListN.{length, get_or}
use Rattle.rules.specs.Payload.{bytes_of}
use Rattle.rules.specs.Layouts.{Field, chars, pack}
use Rattle.rule_laws.specs.Layout.{FitFields}
use Rattle.fields.specs.Packed.{one_byte}

-- the characters of a text are its own bytes
pub pack_chars : (n at : ℕ) (text vs : List ℕ) (fs : List Field) → length text ≡ n → ((i : ℕ) → get_or text i 0 < 256) → pack (chars at n ++ fs) (text ++ vs) ≡ text ++ pack fs vs
unfolding pack
pack_chars zero at [] vs fs e h = refl
pack_chars zero at (t ∷ ts) vs fs e h = absurd (omega arith)
pack_chars (suc n) at [] vs fs e h = absurd (omega arith)
pack_chars (suc n) at (t ∷ ts) vs fs e h =
    let first : bytes_of 1 t ≡ t ∷ [] = sym (one_byte t (h 0)) in
    let rest : pack (chars (suc at) n ++ fs) (ts ++ vs) ≡ ts ++ pack fs vs = pack_chars n (suc at) ts vs fs (omega arith) (λ i. h (suc i)) in
    λ i. first i ++ rest i

-- and fit their fields
pub chars_fit :
    (n at : ℕ) (text vs : List ℕ) (fs : List Field) → length text ≡ n → ((i : ℕ) → get_or text i 0 < 256) → FitFields fs vs → FitFields (chars at n ++ fs) (text ++ vs)
chars_fit zero at [] vs fs e h rest = rest
chars_fit zero at (t ∷ ts) vs fs e h rest = absurd (omega arith)
chars_fit (suc n) at [] vs fs e h rest = absurd (omega arith)
chars_fit (suc n) at (t ∷ ts) vs fs e h rest = (h 0, chars_fit n (suc at) ts vs fs (omega arith) (λ i. h (suc i)) rest)
