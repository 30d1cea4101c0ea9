-- No number has no value. In the range of 32 bits, what is cut off is decided at f64; outside it a number is not whole. The laws of Reading say each for
-- every float. An integer that fits is read back from its bits as itself.
use Rattle.std.proofs.Common.{◌≡◌, ◌^◌, ◌<◌, Bool, true, false, cond, ℤ, sym, ap, ◌∙◌, subst, lt_trans, lit<, w32, w64, SFits, to_z, of_z}
use lib.Signed.{mag}
use lib.Ieee.{Float, of_bits, neg, binary64, of_int, le, lt, eq, to_signed}
use mir.ValLaws.{to_z-of_z}
use borrow.Author.Rules.{sfits_of}
use Rattle.rules.specs.Values.{integer, not_whole, whole_of}
use Rattle.rule_laws.specs.Wholes.{nan_means, no_value_means}
use Rattle.values.proofs.Reading.{lowest, bound, reading, cut_fits, cut_defined, too_large, too_small}
use Rattle.values.proofs.whole_of.Goals as goal
use Rattle.values.proofs.whole_of.Goals.{else-x-via-then-x+else-x-2, else-x-via-else-x}

-- an i64 that is cast to an i32, as it is read back from its bits
abbrev recast : ℤ → ℤ
recast z = to_z w32 (of_z w32 (to_z w64 (of_z w64 z)))

module _ (x : Float) (z : ℤ) (l : le lowest x ≡ true) (h : lt x bound ≡ true) (cut : z ≡ to_signed 63 x) where
  short : mag z < 2 ^ 31
  short = subst (λ (k : ℤ). mag k < 2 ^ 31) (sym cut) (cut_fits x l h)

  same64 : to_z w64 (of_z w64 z) ≡ z
  same64 = to_z-of_z w64 z (sfits_of (lt_trans short (lit< tt)))

  fits : SFits w32 (to_z w64 (of_z w64 z))
  fits = subst (λ (k : ℤ). SFits w32 k) (sym same64) (sfits_of short)

  same : recast z ≡ z
  same = to_z-of_z w32 (to_z w64 (of_z w64 z)) fits ∙ same64

  judged : (y : Float) (t : Bool) → y ≡ x → eq (of_int binary64 (recast z)) y ≡ t → cond t (integer (recast z)) not_whole ≡ whole_of x
  judged y t e r =
      ap (λ (b : Bool). cond b (integer (recast z)) not_whole) (sym r)
      ∙ ap (λ (v : Float). cond (eq (of_int binary64 (recast z)) v) (integer (recast z)) not_whole) e
      ∙ ap (λ (k : ℤ). cond (eq (of_int binary64 k) x) (integer k) not_whole) (same ∙ cut)
      ∙ reading x l h

pub returns-then-is_nan : goal.returns-then-is_nan
returns-then-is_nan c = let x = c.args.x in
    sym ((no_value_means x).1 ((nan_means x).0 (sym c.is_nan.ensures ∙ c.if-is_nan.true)))

pub truncating_f32_to_i64-n-requires : goal.truncating_f32_to_i64-n-requires
unfolding of_bits neg
truncating_f32_to_i64-n-requires c =
    let t = cut_defined c.args.x c.if-x.true c.if-x-2.true in
    record { lower_bound = t.0; upper_bound = t.1 }

pub overflow_cast-n : goal.overflow_cast-n
unfolding of_bits neg
overflow_cast-n c = fits c.args.x c.truncating_f32_to_i64-n.result c.if-x.true c.if-x-2.true c.truncating_f32_to_i64-n.ensures

pub returns-then-n-f32_to_f64_with_nan : goal.returns-then-n-f32_to_f64_with_nan
unfolding of_bits neg
returns-then-n-f32_to_f64_with_nan c = judged c.args.x c.truncating_f32_to_i64-n.result c.if-x.true c.if-x-2.true
    c.truncating_f32_to_i64-n.ensures c.f32_to_f64_with_nan.result true c.f32_to_f64_with_nan.ensures c.if-n-f32_to_f64_with_nan.true

pub returns-else-n-f32_to_f64_with_nan : goal.returns-else-n-f32_to_f64_with_nan
unfolding of_bits neg
returns-else-n-f32_to_f64_with_nan c = judged c.args.x c.truncating_f32_to_i64-n.result c.if-x.true c.if-x-2.true
    c.truncating_f32_to_i64-n.ensures c.f32_to_f64_with_nan.result false c.f32_to_f64_with_nan.ensures c.if-n-f32_to_f64_with_nan.false

pub returns-else-x : goal.returns-else-x
unfolding of_bits neg
returns-else-x c =
    let some = sym c.is_nan.ensures ∙ c.if-is_nan.false in
    elim c.else-x.branch [
      | else-x-via-then-x+else-x-2 w ↦ too_large c.args.x some w.if-x-2.false
      | else-x-via-else-x w ↦ too_small c.args.x some w.if-x.false
    ]
