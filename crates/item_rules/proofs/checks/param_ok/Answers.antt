-- Each arm's variant is known, and the rule that it stands for is what the function called there ensures.
use Prim.Native.Nat.{ℕ}
use mathlib.Core.Path.{◌≡◌, sym, ap, ap₂, ◌∙◌}
use mathlib.Core.Bool.{◌||◌}
use lib.IntN.{ℤ}
use lib.Ieee.{Float}
use mir.Syntax.{w32}
use mir.Val.{SFits}
use Rattle.rules.specs.Values.{Whole, whole_of, whole_from}
use Rattle.rule_laws.specs.Wholes.{none_is_nan}
use Rattle.values.specs.Integers.{back, back_is}
use Rattle.rules.specs.Items.{param_ok}
use Rattle.item_rules.specs.Table.{rule_of}
use Rattle.item_rules.specs.declared.table.ParamRule.{ParamRule}
use borrow.Author.Rules.{rules}
use Rattle.item_rules.proofs.checks.param_ok.Goals as goal

-- an i32 that is passed on is read back from its bits
as_passed : (low high : ℤ) → SFits w32 low → SFits w32 high → (w : Whole) → whole_from (back low) (back high) w ≡ whole_from low high w
as_passed low high l h w = rw (back_is low l, back_is high h)

by_rule : {p q : ParamRule} (count own : ℕ) (x : Float) → p ≡ q → param_ok (rule_of p) count own x ≡ param_ok (rule_of q) count own x
by_rule count own x e = ap (λ (r : ParamRule). param_ok (rule_of r) count own x) e

pub returns-in-Anything : goal.returns-in-Anything
unfolding param_ok
returns-in-Anything c = let a = c.args in
    sym (by_rule a.count a.own a.x c.in-Anything.is)

pub returns-in-Finite : goal.returns-in-Finite
unfolding param_ok
returns-in-Finite c = let a = c.args in
    c.is_finite.ensures ∙ sym (by_rule a.count a.own a.x c.in-Finite.is)

pub returns-in-AtLeastZero : goal.returns-in-AtLeastZero
unfolding param_ok
returns-in-AtLeastZero c = let a = c.args in
    c.at_least_zero.ensures ∙ sym (by_rule a.count a.own a.x c.in-AtLeastZero.is)

pub returns-in-AboveZero : goal.returns-in-AboveZero
unfolding param_ok
returns-in-AboveZero c = let a = c.args in
    c.above_zero.ensures ∙ sym (by_rule a.count a.own a.x c.in-AboveZero.is)

pub returns-in-UpTo : goal.returns-in-UpTo
unfolding param_ok
returns-in-UpTo c = let a = c.args in
    c.zero_to.ensures ∙ sym (by_rule a.count a.own a.x c.in-UpTo.is)

pub returns-in-Whole : goal.returns-in-Whole
unfolding param_ok
returns-in-Whole c = let a = c.args in
    c.whole_within.ensures
    ∙ as_passed c.in-Whole.low c.in-Whole.high (search rules) (search rules) (whole_of a.x)
    ∙ sym (by_rule a.count a.own a.x c.in-Whole.is)

pub returns-in-WholeOrNone : goal.returns-in-WholeOrNone
unfolding param_ok
returns-in-WholeOrNone c = let a = c.args in
    ap₂ ◌||◌ (c.is_nan.ensures ∙ sym (none_is_nan a.x))
    (c.whole_within-in-WholeOrNone.ensures ∙ as_passed c.in-WholeOrNone.low c.in-WholeOrNone.high (search rules) (search rules) (whole_of a.x))
    ∙ sym (by_rule a.count a.own a.x c.in-WholeOrNone.is)

pub returns-in-Target : goal.returns-in-Target
unfolding param_ok
returns-in-Target c = let a = c.args in
    c.is_target.ensures ∙ sym (by_rule a.count a.own a.x c.in-Target.is)
