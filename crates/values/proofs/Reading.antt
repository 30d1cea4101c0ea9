-- The reading of a float as a whole number, for every float. A number is p / d in size, with p = m * up e and d = down e, and q = p / d is what
-- is left of it without its fraction. Within 32 bits q is exact at binary64, so it equals the number there exactly if p % d is 0.
use Rattle.std.proofs.Common.{◌≡◌, ℕ, zero, suc, ◌+◌, ◌-◌, ◌*◌, ◌/◌, ◌%◌, ◌^◌, ◌<◌, ◌≤◌, min, Bool, true, false, cond, ◌&&◌, ◌||◌, T, eqb, ltb, leb, ℤ, pos, negsuc, neg_ℤ, sym, refl, ap, ◌∙◌, subst, le_trans, zero-lt-suc, div-lt_iff_lt-mul, lt_of_mul-lt-mul_right, div-add-mod', le-div_iff_mul-le, zero-mul, mul-one, mul_right_comm, arith, ltb-false, ltb-true, le-ltb, lt-ltb, eq-eqb, ne_eqb, eqb-true, le-leb, leb-false, leb-true}
use mathlib.Core.Bool.{beq, and-true, false≢true}
use native.Mathlib.Nat.{min-eq_left}
use lib.Signed.{mag}
use lib.Ieee.{Float, nan, inf, fin, binary64, up, down, lt, le, eq, is_nan, of_int, to_signed}
use lib.Ieee.Fits.{down_pos}
use lib.Ieee.Exact.{HasValue}
use lib.Ieee.Back.{round_whole}
use borrow.Author.Tests.{lt-leb, eqb-false}
use Rattle.rules.specs.Limits.{half_clock}
use Rattle.rules.specs.Values.{integer, not_whole, in_word, signed_as, whole_of}
use Rattle.rule_laws.specs.Tests.{eqb_sym}
use Rattle.float_tests.proofs.NumberTests.{le_or_eq, eqb_scaled}

-- -2 ^ 31 and 2 ^ 31
abbrev pub lowest : Float
lowest = fin true 1 (pos 31)

abbrev pub bound : Float
bound = fin false 1 (pos 31)

-- ---- within the range

record Within (s : Bool) (q : ℕ) : Type 0 where
  most : q ≤ half_clock
  fits : mag (signed_as s q) < half_clock

negative : (q : ℕ) → q ≤ half_clock → mag (neg_ℤ (pos q)) < half_clock
negative zero h = omega arith
negative (suc q) h = omega arith

-- `le lowest x` at a negative number
at_most : (p d : ℕ) → (ltb (p * 1) (half_clock * d) || (eqb (half_clock * d) (p * 1) && true)) ≡ leb p (half_clock * d)
at_most p d =
    ap (λ (t : Bool). ltb (p * 1) (half_clock * d) || (t && true)) (eqb_sym (half_clock * d) (p * 1))
    ∙ le_or_eq (p * 1) (half_clock * d)
    ∙ ap (λ (k : ℕ). leb k (half_clock * d)) (mul-one p)

within : (s : Bool) (m : ℕ) (e : ℤ) → le lowest (fin s m e) ≡ true → lt (fin s m e) bound ≡ true → Within s (m * up e / down e)
unfolding lt le eq
within false m e l h =
    let q = m * up e / down e in
    let small : q < half_clock = (div-lt_iff_lt-mul (down_pos e)).1 (omega (arith, ltb-true (m * up e * 1) (half_clock * down e) h)) in
    record { most = omega arith; fits = small }
within true m e l h =
    let q = m * up e / down e in
    let few : m * up e ≤ half_clock * down e = leb-true (m * up e) (half_clock * down e) (sym (at_most (m * up e) (down e)) ∙ l) in
    let small : q < 1 + half_clock = (div-lt_iff_lt-mul (down_pos e)).1 (omega (arith, few, down_pos e)) in
    record { most = omega arith; fits = negative q (omega arith) }

capped : (q c : ℕ) → q ≤ half_clock → half_clock ≤ c → min q c ≡ q
capped q c h k = min-eq_left (le_trans h k)

-- cut toward zero
cut_is : (s : Bool) (m : ℕ) (e : ℤ) → m * up e / down e ≤ half_clock → to_signed 63 (fin s m e) ≡ signed_as s (m * up e / down e)
unfolding to_signed
cut_is true m e h = ap (λ (q : ℕ). neg_ℤ (pos q)) (capped (m * up e / down e) (2 ^ 63) h (omega arith))
cut_is false m e h = ap pos (capped (m * up e / down e) (2 ^ 63 - 1) h (omega arith))

-- ---- exact at binary64

-- the sign of an integer, as a float has it: no minus zero comes of one
abbrev sign : Bool → ℕ → Bool
sign s q = s && ltb 0 q

as_float : (s : Bool) (q : ℕ) → q ≤ half_clock → HasValue (of_int binary64 (signed_as s q)) (sign s q) q 1
unfolding of_int
as_float false q h = round_whole binary64 false q (omega arith)
as_float true zero h = round_whole binary64 false 0 (omega arith)
as_float true (suc q) h = subst (λ (t : Bool). HasValue (of_int binary64 (negsuc q)) t (suc q) 1) (sym (lt-ltb 0 (suc q) (zero-lt-suc q))) (round_whole binary64 true (suc q) (omega arith))

signs_level : (s : Bool) (q a : ℕ) → (q ≡ 0 → a ≡ 0) → (beq (sign s q) s || eqb a 0) ≡ true
signs_level false q a z = refl
signs_level true zero a z = eq-eqb a 0 (z refl)
signs_level true (suc q) a z = rw (lt-ltb 0 (suc q) (zero-lt-suc q))

nothing : (a b : ℕ) → 0 * a * b ≡ 0
nothing a b = ap (λ (n : ℕ). n * b) (zero-mul a) ∙ zero-mul b

-- a float that is q / 1 in size, and one of the same sign
level_is : (y : Float) (s : Bool) (q m : ℕ) (e : ℤ) → HasValue y (sign s q) q 1 → eq y (fin s m e) ≡ eqb (q * down e) (m * up e)
unfolding eq
level_is nan s q m e v = elim v [ ]
level_is (inf _) s q m e v = elim v [ ]
level_is (fin t k d) s q m e v =
    let a = k * up d * down e in
    let scaled : a ≡ q * down e * down d =
    ap (λ (n : ℕ). n * down e) (sym (mul-one (k * up d)) ∙ v.1) ∙ mul_right_comm q (down d) (down e) in
    ap (λ (u : Bool). eqb a (m * up e * down d) && (beq u s || eqb a 0)) v.0
    ∙ ap (λ (b : Bool). eqb a (m * up e * down d) && b) (signs_level s q a (λ z. scaled ∙ ap (λ (n : ℕ). n * down e * down d) z ∙ nothing (down e) (down d)))
    ∙ and-true (eqb a (m * up e * down d))
    ∙ ap (λ (n : ℕ). eqb n (m * up e * down d)) scaled
    ∙ eqb_scaled (q * down e) (m * up e) (down d) (down_pos d)

-- nothing is cut off exactly if the remainder is 0
exact : (p d : ℕ) → eqb (p / d * d) p ≡ eqb (p % d) 0
exact p d = go (eqb (p % d) 0) refl (div-add-mod' p d)
  where
    go : (t : Bool) → eqb (p % d) 0 ≡ t → p / d * d + p % d ≡ p → eqb (p / d * d) p ≡ t
    go true h w = eq-eqb (p / d * d) p (omega (arith, eqb-true (p % d) 0 h))
    go false h w = ne_eqb (p / d * d) p (λ e. eqb-false (p % d) 0 h (omega arith))

-- ---- the reading

-- 32 signed bits by the one bound of `mag`
in_word_lem : (z : ℤ) → mag z < half_clock → in_word z ≡ integer z
unfolding in_word
in_word_lem (pos n) h = rw (lt-ltb n half_clock h)
in_word_lem (negsuc n) h = rw (le-leb n (half_clock - 1) (omega arith))

beyond_word : (z : ℤ) → half_clock ≤ mag z → in_word z ≡ not_whole
unfolding in_word
beyond_word (pos n) h = rw (le-ltb n half_clock h)
beyond_word (negsuc n) h = rw (lt-leb n (half_clock - 1) (omega arith))

-- a number in the range
in_range_lem : (t : Bool) (z : ℤ) → mag z < half_clock → cond t (integer z) not_whole ≡ cond t (in_word z) not_whole
in_range_lem true z h = sym (in_word_lem z h)
in_range_lem false z h = refl

-- and one that is beyond it where it is whole
out_of_range : (t : Bool) (z : ℤ) → (t ≡ true → half_clock ≤ mag z) → not_whole ≡ cond t (in_word z) not_whole
out_of_range true z h = sym (beyond_word z (h refl))
out_of_range false z h = refl

pub cut_fits : (x : Float) → le lowest x ≡ true → lt x bound ≡ true → mag (to_signed 63 x) < half_clock
unfolding lt le eq
cut_fits nan l h = absurd (false≢true l)
cut_fits (inf true) l h = absurd (false≢true l)
cut_fits (inf false) l h = absurd (false≢true h)
cut_fits (fin s m e) l h =
    let w = within s m e l h in
    subst (λ (z : ℤ). mag z < half_clock) (sym (cut_is s m e w.most)) w.fits

-- what `truncating_f32_to_i64` asks
pub cut_defined : (x : Float) → le lowest x ≡ true → lt x bound ≡ true → T (le (fin true 1 (pos 63)) x) × T (lt x (fin false 1 (pos 63)))
unfolding lt le eq
cut_defined nan l h = absurd (false≢true l)
cut_defined (inf true) l h = absurd (false≢true l)
cut_defined (inf false) l h = absurd (false≢true h)
cut_defined (fin false m e) l h =
    let few : m * up e * 1 < half_clock * down e = ltb-true (m * up e * 1) (half_clock * down e) h in (
      rw (lt-ltb 0 (2 ^ 63 * down e + m * up e * 1) (omega (arith, down_pos e))) tt,
      rw (lt-ltb (m * up e * 1) (2 ^ 63 * down e) (omega (arith, few))) tt,
    )
cut_defined (fin true m e) l h =
    let few : m * up e ≤ half_clock * down e = leb-true (m * up e) (half_clock * down e) (sym (at_most (m * up e) (down e)) ∙ l) in (
      rw (lt-ltb (m * up e * 1) (2 ^ 63 * down e) (omega (arith, few, down_pos e))) tt,
      rw (lt-ltb 0 (m * up e * 1 + 2 ^ 63 * down e) (omega (arith, down_pos e))) tt,
    )

pub reading : (x : Float) → le lowest x ≡ true → lt x bound ≡ true
    → cond (eq (of_int binary64 (to_signed 63 x)) x) (integer (to_signed 63 x)) not_whole ≡ whole_of x
unfolding lt le eq whole_of
reading nan l h = absurd (false≢true l)
reading (inf true) l h = absurd (false≢true l)
reading (inf false) l h = absurd (false≢true h)
reading (fin s m e) l h =
    let w = within s m e l h in
    let q = m * up e / down e in
    ap (λ (z : ℤ). cond (eq (of_int binary64 z) (fin s m e)) (integer z) not_whole) (cut_is s m e w.most)
    ∙ ap (λ (t : Bool). cond t (integer (signed_as s q)) not_whole)
    (level_is (of_int binary64 (signed_as s q)) s q m e (as_float s q w.most) ∙ exact (m * up e) (down e))
    ∙ in_range_lem (eqb (m * up e % down e) 0) (signed_as s q) w.fits

pub too_large : (x : Float) → is_nan x ≡ false → lt x bound ≡ false → not_whole ≡ whole_of x
unfolding lt whole_of is_nan
too_large nan some h = absurd (false≢true (sym some))
too_large (inf s) some h = refl
too_large (fin false m e) some h =
    out_of_range (eqb (m * up e % down e) 0) (pos (m * up e / down e))
    (λ w. (le-div_iff_mul-le (down_pos e)).1 (omega (arith, ltb-false (m * up e * 1) (half_clock * down e) h)))
too_large (fin true m e) some h = absurd (omega (arith, ltb-false 0 (m * up e * 1 + half_clock * down e) h, down_pos e))

beyond : (q : ℕ) → half_clock < q → half_clock ≤ mag (neg_ℤ (pos q))
beyond zero h = absurd (omega arith)
beyond (suc q) h = omega arith

pub too_small : (x : Float) → is_nan x ≡ false → le lowest x ≡ false → not_whole ≡ whole_of x
unfolding lt le eq whole_of is_nan
too_small nan some h = absurd (false≢true (sym some))
too_small (inf s) some h = refl
too_small (fin false m e) some h =
    let more : 0 < half_clock * down e + m * up e * 1 = omega (arith, down_pos e) in
    let holds : le lowest (fin false m e) ≡ true = rw (lt-ltb 0 (half_clock * down e + m * up e * 1) more) in
    absurd (false≢true (sym h ∙ holds))
too_small (fin true m e) some h =
    let p = m * up e in
    let q = m * up e / down e in
    let more : half_clock * down e < p = leb-false p (half_clock * down e) (sym (at_most p (down e)) ∙ h) in
    out_of_range (eqb (p % down e) 0) (neg_ℤ (pos q))
    (λ w. beyond q (lt_of_mul-lt-mul_right (down e) (omega (arith, more, div-add-mod' p (down e), eqb-true (p % down e) 0 w))))
