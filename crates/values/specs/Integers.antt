-- The tests on i32 numbers, by cases on the sign, and what follows of a float from the code's reading of it as a whole number.
use Rattle.std.specs.Prelude.{◌≡◌, ℕ, suc, ◌<◌, Bool, true, false, cond, not, ◌&&◌, ◌||◌, T, ℤ, pos, negsuc, FitsSigned, ◌==◌, int_le, int_lt, nat_le, nat_lt, unsigned_abs, Result, Ok}
use Rattle.std.proofs.Common.{zero-le, sym, ap, ◌∙◌, subst, arith, le-ltb, le-leb, ltb-true, ltb-false}
use Rattle.std.proofs.Math.Path.{refl}
use Rattle.std.proofs.Math.Bool.{or-false}
use Rattle.std.proofs.lemmas.Bool.{false≢true, lt-leb}
use Rattle.std.specs.Int.Signed.{mag, non_neg}
use Rattle.std.proofs.Math.Dec.{leb-zero, leb-suc-suc}
use mir.Syntax.{w32}
use mir.Val.{Fits, to_z, of_z}
use mir.ValLaws.{to_z-of_z, to_z_pos}
use Rattle.rules.specs.Limits.{half_clock}
use Rattle.rules.specs.Values as rules
use Rattle.rules.specs.Values.{whole_from, whole_number, within, integer}
use Rattle.rules.specs.Items.{target_in}
use Rattle.values.specs.declared.NotWhole.{NotWhole}
use Rattle.values.specs.Wholes.{meant, read_as}

-- an i32, as it is read back from its bits
abbrev pub back : ℤ → ℤ
back z = to_z w32 (of_z w32 z)

pub back_is : (z : ℤ) → FitsSigned w32 z → back z ≡ z
back_is z f = to_z-of_z w32 z f

-- ---- within a limit

ltb_not : (a b : ℕ) → nat_lt a b ≡ not (nat_le b a)
ltb_not a b = go (nat_lt a b) refl
  where
    go : (t : Bool) → nat_lt a b ≡ t → t ≡ not (nat_le b a)
    go true h = rw (lt-leb b a (ltb-true a b h))
    go false h = rw (le-leb b a (ltb-false a b h))

outside : (k : ℕ) (v : ℤ) → (int_lt v (negsuc k) || int_lt (pos (suc k)) v) ≡ not (within (suc k) v)
outside k (pos n) = ltb_not (suc k) n
outside k (negsuc n) = or-false (nat_lt k n) ∙ ltb_not k n ∙ ap not (sym (leb-suc-suc n k))

pub within_limit : (k : ℕ) (x v : ℤ) (t : Bool) → FitsSigned w32 x → x ≡ v → (int_lt (back x) (negsuc k) || int_lt (pos (suc k)) (back x)) ≡ t → not (within (suc k) v) ≡ t
within_limit k x v t f e h =
    sym (outside k v) ∙ ap (λ (z : ℤ). int_lt z (negsuc k) || int_lt (pos (suc k)) z) (sym (back_is x f ∙ e)) ∙ h

-- ---- the reading is an integer

module _ (w : rules.Whole) (n : ℤ) (r : Result ℤ NotWhole) (is : r ≡ Ok n) (reads : meant r ≡ w) (f : FitsSigned w32 n) where
  whole_is : w ≡ integer n
  whole_is = sym (read_as reads is)

  pub within_is : (low high : ℤ) → FitsSigned w32 low → FitsSigned w32 high → (int_le (back low) (back n) && int_le (back n) (back high)) ≡ whole_from low high w
  unfolding whole_from
  within_is low high l h = rw (whole_is, back_is n f, back_is low l, back_is high h)

  pub target_is :
      (home : Bool) (count own : ℕ) → count < half_clock
      → (((int_le (pos 0) (back n) && int_lt (back n) (to_z w32 count)) && not (of_z w32 n == own)) && not (home && of_z w32 n == 0)) ≡ target_in home count own w
  unfolding target_in
  target_is home count own c = rw (whole_is, back_is n f, to_z_pos w32 count c) (go n)
    where
      go : (n : ℤ) → (((int_le (pos 0) n && int_lt n (pos count)) && not (of_z w32 n == own)) && not (home && of_z w32 n == 0)) ≡ target_in home count own (integer n)
      go (pos t) = rw (leb-zero t)
      go (negsuc t) = refl

  pub number_is : (t : Bool) → int_lt (back n) (pos 0) ≡ t → cond t 0 (unsigned_abs (back n)) ≡ whole_number w
  unfolding whole_number
  number_is t h = rw (← h, whole_is, back_is n f) (go n)
    where
      go : (n : ℤ) → cond (int_lt n (pos 0)) 0 (unsigned_abs n) ≡ whole_number (integer n)
      go (pos k) = rw (le-ltb k 0 zero-le)
      go (negsuc k) = refl

pub cast_defined : (n : ℤ) → FitsSigned w32 n → int_lt (back n) (pos 0) ≡ false → T (non_neg (back n)) × Fits w32 (unsigned_abs (back n))
cast_defined n f h = subst (λ (z : ℤ). T (non_neg z) × Fits w32 (unsigned_abs z)) (sym (back_is n f)) (go n f.sfits (ap (λ (z : ℤ). int_lt z (pos 0)) (sym (back_is n f)) ∙ h))
  where
    go : (n : ℤ) → mag n < half_clock → int_lt n (pos 0) ≡ false → T (non_neg n) × Fits w32 (unsigned_abs n)
    go (pos k) s h = (tt, record { fits = omega arith })
    go (negsuc k) s h = absurd (false≢true (sym h))
