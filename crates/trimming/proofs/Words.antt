-- Bytes by the number in them: the highest that is not zero, and how many zeros follow it.
use Prim.Native.Nat.{ℕ, zero, suc, ◌+◌, ◌*◌, ◌/◌, ◌^◌, ◌<◌, ◌≤◌}
use mathlib.Core.Path.{◌≡◌, refl, ap, ◌∙◌}
use mathlib.Core.Bool.{cond}
use native.Mathlib.Nat.{lt_of_not-le}
use native.Mathlib.Omega.{arith}
use lib.Count.{count_leading_zeros, leading_top, leading_of_zero}
use lib.Dec.{eqb}
use lib.ListN.{length, get_or, take, drop}
use lib.Pow.{pow_pos, pow_mono, pow-add}
use lib.Seq.{drop-cons}
use borrow.Author.Tests.{ne_eqb}
use Rattle.rules.specs.Limits.{byte_values}
use Rattle.rules.specs.Payload.{Bytes, number_at, significant}

-- s is the place of the highest byte that is not zero in a number v, counted from 1, or 0 where there is none
data Highest (s v : ℕ) : Type 0 where
  none : s ≡ 0 → v ≡ 0 → Highest s v
  some : (m : ℕ) → s ≡ suc m → 2 ^ (8 * m) ≤ v → v < 2 ^ (8 * suc m) → Highest s v

byte_more : (m : ℕ) → 2 ^ (8 * suc m) ≡ byte_values * 2 ^ (8 * m)
byte_more m = let more : 8 * suc m ≡ 8 + 8 * m = omega arith in ap (λ (k : ℕ). 2 ^ k) more ∙ pow-add 2 8 (8 * m)

-- a byte below such a number
below : (b s v : ℕ) → b < byte_values → Highest s v → Highest (cond (eqb b 0) (cond (eqb s 0) 0 (suc s)) (suc s)) (b + byte_values * v)
below zero zero v small (none e zeros) = none refl (omega arith)
below zero (suc s) v small (none e zeros) = absurd (omega arith)
below zero zero v small (some m is low high) = absurd (omega arith)
below zero (suc s) v small (some m is low high) =
    some (suc m) (rw (ne_eqb (suc s) 0 (λ e. omega arith)) (ap suc is)) (omega (arith, byte_more m)) (omega (arith, byte_more (suc m)))
below (suc b) s v small h = rw (ne_eqb (suc b) 0 (λ e. omega arith)) (go h)
  where
    go : Highest s v → Highest (suc s) (suc b + byte_values * v)
    go (none e zeros) = some 0 (ap suc e) (omega arith) (omega arith)
    go (some m is low high) = some (suc m) (ap suc is) (omega (arith, byte_more m)) (omega (arith, byte_more (suc m)))

highest : (p : Bytes) → ((i : ℕ) → get_or p i 0 < byte_values) → (w at : ℕ) → at + w ≤ length p → Highest (significant (take w (drop at p))) (number_at w at p)
unfolding number_at significant
highest p small zero at h = none refl refl
highest p small (suc w) at h =
    rw (drop-cons p at 0 (omega arith)) (below (get_or p at 0) (significant (take w (drop (suc at) p))) (number_at w (suc at) p) (small at) (highest p small w (suc at) (omega arith)))

-- so the zeros that end w bytes are as many as there are whole bytes of leading zeros in their number
zero_bytes : (w s v : ℕ) → v < 2 ^ (8 * w) → Highest s v → count_leading_zeros (8 * w) v / 8 + s ≡ w
zero_bytes w s v fits (none e zeros) =
    let all : count_leading_zeros (8 * w) v ≡ 8 * w = ap (count_leading_zeros (8 * w)) zeros ∙ leading_of_zero (8 * w) in
    omega arith
zero_bytes w s v fits (some m is low high) =
    let top = leading_top (8 * w) v (omega (arith, pow_pos (8 * m))) fits in
    let above : 8 * m < suc top.0 = lt_of_not-le (λ (g : suc top.0 ≤ 8 * m). omega (arith, pow_mono g, top.3)) in
    let under : top.0 < 8 * suc m = lt_of_not-le (λ (g : 8 * suc m ≤ top.0). omega (arith, pow_mono g, top.2)) in
    omega (arith, top.1)

pub zeros_counted :
    (p : Bytes) → ((i : ℕ) → get_or p i 0 < byte_values) → (w at : ℕ) → at + w ≤ length p → number_at w at p < 2 ^ (8 * w)
    → count_leading_zeros (8 * w) (number_at w at p) / 8 + significant (take w (drop at p)) ≡ w
zeros_counted p small w at h fits = zero_bytes w (significant (take w (drop at p))) (number_at w at p) fits (highest p small w at h)
