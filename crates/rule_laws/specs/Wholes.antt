-- M-105: what each reading of a param as a whole number means, for every float and in both directions; which patterns have no value; and that a jump whose
-- repeat has none is one that repeats once.
use Rattle.std.specs.Prelude.{ℕ, zero, suc, ◌*◌, ◌/◌, ◌%◌, ◌<◌, ◌≡◌, refl, ◌↔◌, Bool, true, false, cond, ◌&&◌, ℤ, pos, negsuc, neg_ℤ, nat_abs, ◌*ℤ◌, eqb, Float}
use Rattle.std.proofs.Common.{arith, mul-div_cancel, div-add-mod', zero-mul, sym, ap, ◌∙◌, subst, true≢false, eqb-true, eq-eqb}
use Rattle.std.proofs.Math.Nat.{mul-mod_left, zero-div}
use Rattle.std.specs.Int.Signed.{le_z, lt_z, quot_z}
use Rattle.std.specs.Float.{nan, inf, fin, binary32}
use Rattle.std.specs.Float.Ieee.{is_nan, nan_bits, up, down}
use Rattle.std.specs.Float.Ieee.Fits.{down_pos}
use Rattle.std.specs.Float.Ieee.Bits.{nan_bits_is}
use Rattle.rules.specs.Limits.{half_clock}
use Rattle.rules.specs.Messages.{Item}
use Rattle.rules.specs.Values.{float, Whole, integer, no_value, not_whole, in_word, signed_as, whole_of, whole_from, is_none}
use Rattle.rules.specs.Items.{jump, param_ok, place_fault, fault_in, fault_among, fault}
use Rattle.rules.specs.NextCommand.{or_one, repeat_of}

-- A float is the number v: of `fin s m e`, which is m * up e / down e in size, that is said by whole numbers alone.
abbrev pub IsNumber : Float → ℤ → Type 0
IsNumber nan v = ⊥
IsNumber (inf s) v = ⊥
IsNumber (fin s m e) v = signed_as s (m * up e) ≡ v *ℤ pos (down e)

-- 32 signed bits
abbrev pub In32 : ℤ → Type 0
In32 v = (le_z (neg_ℤ (pos half_clock)) v && lt_z v (pos half_clock)) ≡ true

-- ---- a quotient of whole numbers that is whole

-- zero alone has no sign
size_of : (s : Bool) (n : ℕ) → nat_abs (signed_as s n) ≡ n
size_of false n = refl
size_of true zero = refl
size_of true (suc n) = refl

size_times : (v : ℤ) (d : ℕ) → nat_abs (v *ℤ pos d) ≡ nat_abs v * d
size_times (pos n) d = refl
size_times (negsuc n) d = size_of true (suc n * d)

signed_times : (s : Bool) (n d : ℕ) → signed_as s (n * d) ≡ signed_as s n *ℤ pos d
signed_times false n d = refl
signed_times true zero d = ap (λ (k : ℕ). neg_ℤ (pos k)) (zero-mul d) ∙ sym (ap pos (zero-mul d))
signed_times true (suc n) d = refl

quot_neg : (n d : ℕ) → quot_z (neg_ℤ (pos n)) (pos d) ≡ neg_ℤ (pos (n / d))
quot_neg zero d = ap pos (zero-div d) ∙ sym (ap (λ (k : ℕ). neg_ℤ (pos k)) (zero-div d))
quot_neg (suc n) d = refl

quot_times : (v : ℤ) (d : ℕ) → 0 < d → quot_z (v *ℤ pos d) (pos d) ≡ v
quot_times (pos n) d h = ap pos (mul-div_cancel n h)
quot_times (negsuc n) d h = quot_neg (suc n * d) d ∙ ap (λ (k : ℕ). neg_ℤ (pos k)) (mul-div_cancel (suc n) h)

quot_is : (s : Bool) (n d : ℕ) (v : ℤ) → 0 < d → signed_as s (n * d) ≡ v *ℤ pos d → signed_as s n ≡ v
quot_is s n d v h e =
    sym (quot_times (signed_as s n) d h) ∙ ap (λ (z : ℤ). quot_z z (pos d)) (sym (signed_times s n d) ∙ e) ∙ quot_times v d h

-- ± p / d is v exactly if nothing is left over and ± the quotient is v
module _ (s : Bool) (p d : ℕ) (v : ℤ) (h : 0 < d) where
  whole_quotient : signed_as s p ≡ v *ℤ pos d → (p % d ≡ 0) × (signed_as s (p / d) ≡ v)
  whole_quotient e =
      let n = nat_abs v in
      let size : p ≡ n * d = sym (size_of s p) ∙ ap nat_abs e ∙ size_times v d in (
        ap (λ (k : ℕ). k % d) size ∙ mul-mod_left n d,
        ap (λ (k : ℕ). signed_as s (k / d)) size ∙ ap (signed_as s) (mul-div_cancel n h) ∙ quot_is s n d v h (ap (signed_as s) (sym size) ∙ e),
      )

  quotient_whole : p % d ≡ 0 → signed_as s (p / d) ≡ v → signed_as s p ≡ v *ℤ pos d
  quotient_whole none is =
      let size : p ≡ p / d * d = omega (arith, div-add-mod' p d) in
      ap (signed_as s) size ∙ signed_times s (p / d) d ∙ ap (λ (z : ℤ). z *ℤ pos d) is

-- ---- the readings

-- no two of the readings are equal: where a premise says so, `cc` finds 0 ≡ 1
clash : {A : Type 0} → ◌≡◌ {A = ℕ} 0 1 → A
clash e = absurd (omega arith)

in_word_lem : (v : ℤ) → In32 v → in_word v ≡ integer v
unfolding in_word
in_word_lem v h = rw h

read_in_word : (v w : ℤ) → in_word v ≡ integer w → (v ≡ w) × In32 v
unfolding in_word
read_in_word v w = go (le_z (neg_ℤ (pos half_clock)) v && lt_z v (pos half_clock)) refl
  where
    go : (t : Bool) → (le_z (neg_ℤ (pos half_clock)) v && lt_z v (pos half_clock)) ≡ t → cond t (integer v) not_whole ≡ integer w → (v ≡ w) × In32 v
    go true h e = (cc, h)
    go false h e = clash cc

-- A whole number is read exactly if the float is that number, and it is one of 32 signed bits.
pub integer_means : (x : Float) (v : ℤ) → (whole_of x ≡ integer v) ↔ (IsNumber x v × In32 v)
unfolding whole_of
integer_means nan v = (λ e. clash cc, λ h. absurd h.0)
integer_means (inf s) v = (λ e. clash cc, λ h. absurd h.0)
integer_means (fin s m e) v = (reads (eqb (p % d) 0) refl, is_read)
  where
    p : ℕ
    p = m * up e

    d : ℕ
    d = down e

    reads : (t : Bool) → eqb (p % d) 0 ≡ t → cond t (in_word (signed_as s (p / d))) not_whole ≡ integer v → IsNumber (fin s m e) v × In32 v
    reads true h r =
        let read = read_in_word (signed_as s (p / d)) v r in
        (quotient_whole s p d v (down_pos e) (eqb-true (p % d) 0 h) read.0, subst In32 read.0 read.1)
    reads false h r = clash cc

    is_read : IsNumber (fin s m e) v × In32 v → whole_of (fin s m e) ≡ integer v
    is_read h =
        let q = whole_quotient s p d v (down_pos e) h.0 in
        rw (eq-eqb (p % d) 0 q.0, q.1) (in_word_lem v h.1)

-- NaN, by the library's test of it
pub nan_means : (x : Float) → (is_nan x ≡ true) ↔ (x ≡ nan)
unfolding is_nan
nan_means nan = (λ e. refl, λ e. refl)
nan_means (inf s) = (λ e. absurd (true≢false (sym e)), λ e. clash cc)
nan_means (fin s m e) = (λ h. absurd (true≢false (sym h)), λ h. clash cc)

pub none_is_nan : (x : Float) → is_none (whole_of x) ≡ is_nan x
unfolding whole_of in_word is_nan
none_is_nan nan = refl
none_is_nan (inf s) = refl
none_is_nan (fin s m e) = go (eqb (m * up e % down e) 0) (le_z (neg_ℤ (pos half_clock)) v && lt_z v (pos half_clock))
  where
    v : ℤ
    v = signed_as s (m * up e / down e)

    go : (a b : Bool) → is_none (cond a (cond b (integer v) not_whole) not_whole) ≡ false
    go true true = refl
    go true false = refl
    go false b = refl

-- There is no value exactly if the float is NaN.
pub no_value_means : (x : Float) → (whole_of x ≡ no_value) ↔ (x ≡ nan)
unfolding whole_of
no_value_means x = (λ e. (nan_means x).0 (sym (none_is_nan x) ∙ ap is_none e), λ e. ap whole_of e)

-- It is not whole exactly if neither is so.
pub not_whole_means : (x : Float) → (whole_of x ≡ not_whole) ↔ ((x ≡ nan → ⊥) × ((v : ℤ) → IsNumber x v → In32 v → ⊥))
not_whole_means x = (
  λ e. (
    λ h. let r : whole_of x ≡ no_value = (no_value_means x).1 h in clash cc,
    λ v h k. let r : whole_of x ≡ integer v = (integer_means x v).1 (h, k) in clash cc,
  ),
  λ h. go (whole_of x) refl h.0 h.1,
)
  where
    go : (w : Whole) → whole_of x ≡ w → (x ≡ nan → ⊥) → ((v : ℤ) → IsNumber x v → In32 v → ⊥) → w ≡ not_whole
    go (integer v) e some none = let h = (integer_means x v).0 e in absurd (none v h.0 h.1)
    go no_value e some none = absurd (some ((no_value_means x).0 e))
    go not_whole e some none = refl

-- ---- patterns

-- A pattern has no value exactly if it is one of NaN's: quiet or signalling, of either sign.
pub no_value_pattern : (bits : ℕ) → (whole_of (float bits) ≡ no_value) ↔ (nan_bits binary32 bits ≡ true)
no_value_pattern bits = (
  λ e. nan_bits_is binary32 bits ∙ (nan_means (float bits)).1 ((no_value_means (float bits)).0 e),
  λ h. (no_value_means (float bits)).1 ((nan_means (float bits)).0 (sym (nan_bits_is binary32 bits) ∙ h)),
)

-- ---- a jump whose repeat has no value

-- an item with another param 2
abbrev pub with_param2 : ℕ → Item → Item
with_param2 bits item =
    record {
      param1 = item.param1;
      param2 = bits;
      param3 = item.param3;
      param4 = item.param4;
      x = item.x;
      y = item.y;
      z = item.z;
      seq = item.seq;
      command = item.command;
      frame = item.frame;
      autocontinue = item.autocontinue;
      kind = item.kind;
    }

module _ (item : Item) (none : nan_bits binary32 item.param2 ≡ true) (bits : ℕ) (one : whole_of (float bits) ≡ integer (pos 1)) where
  -- It is judged as the same jump with a param 2 that is 1, in every place.
  pub judged_as_one : (home : Bool) (kind count own jumps : ℕ) → item.command ≡ jump → fault home kind count own jumps item ≡ fault home kind count own jumps (with_param2 bits item)
  unfolding fault fault_among fault_in param_ok place_fault whole_from
  judged_as_one home kind count own jumps c = rw (c, (no_value_pattern item.param2).1 none, one)

  -- It repeats as often, once.
  pub repeats_as_one : (repeat_of item ≡ pos 1) × (repeat_of (with_param2 bits item) ≡ pos 1)
  unfolding or_one
  repeats_as_one = (rw ((no_value_pattern item.param2).1 none), rw one)
