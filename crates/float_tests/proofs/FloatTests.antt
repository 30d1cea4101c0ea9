-- The f32 comparisons decide the tests of the rules, for every float: by cases on nan, an infinity and a number, whose
-- magnitude m * up e is 0 exactly if m is.
use Prim.Native.Nat.{ℕ, zero, suc, ◌+◌, ◌*◌, ◌≤◌, ◌<◌, zero-le}
use mathlib.Core.Path.{◌≡◌, refl, sym, ap, ◌∙◌, subst}
use mathlib.Core.Bool.{Bool, true, false, not, ◌&&◌, ◌||◌, and-true, or-true, or-false}
use native.Mathlib.Nat.{zero-mul, mul-one, mul-pos, mul_right_comm, zero-lt-suc}
use native.Mathlib.Omega.{arith}
use lib.IntN.{ℤ, pos}
use lib.Dec.{eqb, ltb, leb, eqb-suc-zero}
use lib.Ieee.{Float, nan, inf, fin, up, down, lt, le, eq, below, level}
use lib.Ieee.Fits.{up_pos, down_pos}
use lib.Ieee.Exact.{HasValue}
use borrow.Author.Tests.{lt-ltb, le-leb, ne_eqb}
use Rattle.float_tests.proofs.NumberTests.{le_or_eq, leb_scaled}
use Rattle.rules.specs.Values.{at_least_zero, above_zero, zero_to}

-- 0 against a number of magnitude w
abbrev zero_below : Bool → ℕ → Bool
zero_below s w = below false 0 s w || level false 0 s w

at_least : (s : Bool) (m w : ℕ) → (m ≡ 0 → w ≡ 0) → (0 < m → 0 < w) → zero_below s w ≡ (not s || eqb m 0)
at_least true zero w z p = rw (z refl)
at_least true (suc m) w z p = simp (ne_eqb 0 w (λ e. omega (arith, e, p (zero-lt-suc m))), eqb-suc-zero)
at_least false zero w z p = rw (z refl)
at_least false (suc m) w z p = rw (lt-ltb 0 w (p (zero-lt-suc m)))

at_zero : (m : ℕ) (e : ℤ) → m ≡ 0 → m * up e * 1 ≡ 0
at_zero m e z = mul-one (m * up e) ∙ ap (λ (k : ℕ). k * up e) z ∙ zero-mul (up e)

beyond_zero : (m : ℕ) (e : ℤ) → 0 < m → 0 < m * up e * 1
beyond_zero m e p = subst (λ (k : ℕ). 0 < k) (sym (mul-one (m * up e))) (mul-pos p (up_pos e))

-- 0's own magnitude, as a comparison with a number of exponent e scales it
none : (e : ℤ) → 0 * 1 * down e ≡ 0
none e = zero-mul (down e)

zero_le_is : (s : Bool) (m : ℕ) (e : ℤ) → le (fin false 0 (pos 0)) (fin s m e) ≡ (not s || eqb m 0)
unfolding lt le eq
zero_le_is s m e =
    ap (λ (a : ℕ). below false a s (m * up e * 1) || level false a s (m * up e * 1)) (none e)
    ∙ at_least s m (m * up e * 1) (at_zero m e) (beyond_zero m e)

pub at_least_zero_is : (x : Float) → (le (fin false 0 (pos 0)) x && lt x (inf false)) ≡ at_least_zero x
unfolding lt le eq at_least_zero
at_least_zero_is nan = refl
at_least_zero_is (inf true) = refl
at_least_zero_is (inf false) = refl
at_least_zero_is (fin s m e) = and-true (le (fin false 0 (pos 0)) (fin s m e)) ∙ zero_le_is s m e

above : (s : Bool) (m w : ℕ) → (m ≡ 0 → w ≡ 0) → (0 < m → 0 < w) → below false 0 s w ≡ (not s && ltb 0 m)
above true m w z p = refl
above false zero w z p = rw (z refl)
above false (suc m) w z p = lt-ltb 0 w (p (zero-lt-suc m)) ∙ sym (lt-ltb 0 (suc m) (zero-lt-suc m))

pub above_zero_is : (x : Float) → (lt (fin false 0 (pos 0)) x && lt x (inf false)) ≡ above_zero x
unfolding lt above_zero
above_zero_is nan = refl
above_zero_is (inf true) = refl
above_zero_is (inf false) = refl
above_zero_is (fin s m e) =
    and-true (lt (fin false 0 (pos 0)) (fin s m e))
    ∙ ap (λ (a : ℕ). below false a s (m * up e * 1)) (none e)
    ∙ above s m (m * up e * 1) (at_zero m e) (beyond_zero m e)

-- ---- up to a limit n, which as a float is k * up d / down d

-- a number that is not negative against n
scaled : (p k n : ℕ) (e d : ℤ) → k * up d * 1 ≡ n * down d
    → (ltb (p * down d) (k * up d * down e) || (eqb (p * down d) (k * up d * down e) && true)) ≡ leb p (n * down e)
scaled p k n e d v =
    le_or_eq (p * down d) (k * up d * down e)
    ∙ ap (λ (q : ℕ). leb (p * down d) (q * down e)) (sym (mul-one (k * up d)) ∙ v)
    ∙ ap (λ (q : ℕ). leb (p * down d) q) (mul_right_comm n (down d) (down e))
    ∙ leb_scaled p (n * down e) (down d) (down_pos d)

-- minus zero against a number that is not negative
minus_zero : (p q : ℕ) → p ≡ 0 → (ltb 0 (p + q) || (eqb p q && eqb p 0)) ≡ true
minus_zero p zero e = rw e
minus_zero p (suc q) e = rw (lt-ltb 0 (p + suc q) (omega arith))

limited : (s : Bool) (m k n : ℕ) (e d : ℤ) → k * up d * 1 ≡ n * down d
    → ((not s || eqb m 0) && le (fin s m e) (fin false k d)) ≡ ((not s && leb (m * up e) (n * down e)) || eqb m 0)
unfolding lt le eq
limited false zero k n e d v =
    scaled (0 * up e) k n e d v
    ∙ le-leb (0 * up e) (n * down e) (subst (λ (a : ℕ). a ≤ n * down e) (sym (zero-mul (up e))) zero-le)
    ∙ sym (or-true (leb (0 * up e) (n * down e)))
limited false (suc m) k n e d v =
    scaled (suc m * up e) k n e d v
    ∙ sym (ap (λ (b : Bool). leb (suc m * up e) (n * down e) || b) (eqb-suc-zero m) ∙ or-false (leb (suc m * up e) (n * down e)))
limited true zero k n e d v = minus_zero (0 * up e * down d) (k * up d * down e) (ap (λ (a : ℕ). a * down d) (zero-mul (up e)) ∙ zero-mul (down d))
limited true (suc m) k n e d v = rw (eqb-suc-zero m)

pub zero_to_is : (n : ℕ) (y : Float) → HasValue y false n 1 → (x : Float) → (le (fin false 0 (pos 0)) x && le x y) ≡ zero_to n x
unfolding lt le eq zero_to
zero_to_is n nan v _ = elim v [ ]
zero_to_is n (inf _) v _ = elim v [ ]
zero_to_is n (fin t k d) v nan = refl
zero_to_is n (fin t k d) v (inf true) = refl
zero_to_is n (fin t k d) v (inf false) = refl
zero_to_is n (fin t k d) v (fin s m e) =
    ap (λ (u : Bool). le (fin false 0 (pos 0)) (fin s m e) && le (fin s m e) (fin u k d)) v.0
    ∙ ap (λ (b : Bool). b && le (fin s m e) (fin false k d)) (zero_le_is s m e)
    ∙ limited s m k n e d v.1
