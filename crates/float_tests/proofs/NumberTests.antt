-- Tests on numbers that say the same: each by what its outcome tells of the numbers.
use Prim.Native.Nat.{ℕ, ◌*◌, ◌<◌}
use mathlib.Core.Path.{◌≡◌, refl, sym, ap}
use mathlib.Core.Bool.{Bool, true, false, ◌&&◌, ◌||◌}
use native.Mathlib.Nat.{mul-le-mul_right, mul-lt-mul_of_pos_right, eq_of_mul-eq-mul_right}
use native.Mathlib.Omega.{arith}
use lib.Dec.{eqb, ltb, leb}
use borrow.Author.Tests.{le-leb, lt-leb, eq-eqb, ne_eqb, ltb-true, ltb-false, leb-true, leb-false, eqb-true, eqb-false}

pub le_or_eq : (a b : ℕ) → (ltb a b || (eqb a b && true)) ≡ leb a b
le_or_eq a b = go (ltb a b) (eqb a b) refl refl
  where
    go : (t u : Bool) → ltb a b ≡ t → eqb a b ≡ u → (t || (u && true)) ≡ leb a b
    go true u h k = sym (le-leb a b (omega (arith, ltb-true a b h)))
    go false true h k = sym (le-leb a b (omega (arith, eqb-true a b k)))
    go false false h k = sym (lt-leb a b (omega (arith, ltb-false a b h, eqb-false a b k)))

pub leb_scaled : (a b w : ℕ) → 0 < w → leb (a * w) (b * w) ≡ leb a b
leb_scaled a b w p = go (leb a b) refl
  where
    go : (t : Bool) → leb a b ≡ t → leb (a * w) (b * w) ≡ t
    go true h = le-leb (a * w) (b * w) (mul-le-mul_right w (leb-true a b h))
    go false h = lt-leb (a * w) (b * w) (mul-lt-mul_of_pos_right (leb-false a b h) p)

pub eqb_scaled : (a b w : ℕ) → 0 < w → eqb (a * w) (b * w) ≡ eqb a b
eqb_scaled a b w p = go (eqb a b) refl
  where
    go : (t : Bool) → eqb a b ≡ t → eqb (a * w) (b * w) ≡ t
    go true h = eq-eqb (a * w) (b * w) (ap (λ (k : ℕ). k * w) (eqb-true a b h))
    go false h = ne_eqb (a * w) (b * w) (λ e. eqb-false a b h (eq_of_mul-eq-mul_right w p a b e))
