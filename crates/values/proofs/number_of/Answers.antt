-- By the variant that `whole_of` returned, which is the rules' own reading.
use Rattle.std.proofs.Common.{◌≡◌, ℤ, zero, suc, pos, negsuc, ap, ◌∙◌, refl, lt-ltb, zero-lt-suc, rules}
use Rattle.std.specs.Prelude.{nat_abs, Err}
use Rattle.std.specs.Int.{int_max}
use Rattle.rules.specs.Values.{whole_of, whole_number, integer}
use Rattle.rules.specs.Values as read
use Rattle.values.specs.declared.NotWhole.{NotWhole}
use Rattle.values.specs.declared.NotWhole.TheVariants.{NoValue, Fraction}
use Rattle.values.specs.Integers.{back_is}
use Rattle.values.specs.Wholes.{meant, read_as}
use Rattle.values.proofs.number_of.Goals as goal

not_below : (v : ℤ) → nat_abs (int_max v (pos 0)) ≡ whole_number (integer v)
unfolding whole_number
not_below (pos zero) = refl
not_below (pos (suc n)) = rw (lt-ltb 0 (suc n) (zero-lt-suc n))
not_below (negsuc n) = refl

none : (e : NotWhole) (w : read.Whole) → meant (Err e) ≡ w → 0 ≡ whole_number w
unfolding whole_number
none NoValue w h = ap whole_number h
none Fraction w h = ap whole_number h

pub returns-in-Ok : goal.returns-in-Ok
returns-in-Ok c =
    let n = c.in-Ok.n in
    let largest : c.max.result ≡ int_max n (pos 0) = c.max.ensures.value ∙ ap (λ (z : ℤ). int_max z (pos 0)) (back_is n (search rules)) in
    ap nat_abs (back_is c.max.result (search rules) ∙ largest) ∙ not_below n ∙ ap whole_number (read_as c.whole_of.ensures c.in-Ok.is)

pub returns-in-Err : goal.returns-in-Err
returns-in-Err c = none c.in-Err.field-0 _ (read_as c.whole_of.ensures c.in-Err.is)
