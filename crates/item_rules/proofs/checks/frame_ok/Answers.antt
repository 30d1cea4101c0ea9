-- A frame of an arm is one of the rule's, and one that has no arm is none of them.
use Prim.Native.Nat.{ℕ, suc, ◌+◌, ◌≤◌, ◌<◌}
use mathlib.Core.Path.{◌≡◌, refl, sym, subst}
use mathlib.Core.Logic.{⊎_elim}
use mathlib.Core.Bool.{Bool, true, false, not, ◌&&◌}
use native.Mathlib.Nat.{eq-or-lt_of_le}
use native.Mathlib.Omega.{arith}
use borrow.Author.Rules.{rules}
use borrow.Author.Tests.{ne_eqb}
use Rattle.rules.specs.Items.{frame_ok}
use Rattle.item_rules.proofs.checks.frame_ok.Goals as goal

module _ (positional : Bool) (frame : ℕ) where
  at : (known : ℕ) {t : Bool} → frame ≡ known → t ≡ frame_ok positional known → t ≡ frame_ok positional frame
  at known {t} e = subst (λ (f : ℕ). t ≡ frame_ok positional f) (sym e)

  either : (low : ℕ) → low ≤ frame → frame < low + 2 → true ≡ frame_ok positional low → true ≡ frame_ok positional (suc low) → true ≡ frame_ok positional frame
  either low l h first second = ⊎_elim (λ e. at low (sym e) first) (λ g. at (suc low) (omega arith) second) (eq-or-lt_of_le l)

  -- a frame that is none of the rule's
  none : (frame ≡ 0 → ⊥) → (frame ≡ 2 → ⊥) → (frame ≡ 3 → ⊥) → (frame ≡ 5 → ⊥) → (frame ≡ 6 → ⊥) → (frame ≡ 10 → ⊥) → (frame ≡ 11 → ⊥) → false ≡ frame_ok positional frame
  unfolding frame_ok
  none n0 n2 n3 n5 n6 n10 n11 =
      rw (ne_eqb 0 frame (λ e. n0 (sym e)), ne_eqb 3 frame (λ e. n3 (sym e)), ne_eqb 5 frame (λ e. n5 (sym e)), ne_eqb 6 frame (λ e. n6 (sym e)), ne_eqb 10 frame (λ e. n10 (sym e)), ne_eqb 11 frame (λ e. n11 (sym e)), ne_eqb 2 frame (λ e. n2 (sym e)))
      (and_false (not positional))
    where
      and_false : (b : Bool) → false ≡ b && false
      and_false true = refl
      and_false false = refl

pub returns-in-2 : goal.returns-in-2
unfolding frame_ok
returns-in-2 c = at c.args.positional _ 2 c.in-2.is (or_false (not c.args.positional))
  where
    or_false : (b : Bool) → b ≡ b && true
    or_false true = refl
    or_false false = refl

pub returns-in_default : goal.returns-in_default
returns-in_default c = search (none, rules)

pub returns-in_default-2 : goal.returns-in_default-2
returns-in_default-2 c = search (none, rules)

pub returns-in_default-3 : goal.returns-in_default-3
returns-in_default-3 c = search (none, rules)

pub returns-in-0 : goal.returns-in-0
unfolding frame_ok
returns-in-0 c = ⊎_elim (λ e. at c.args.positional _ 0 e refl) (λ e. at c.args.positional _ 3 e refl) c.in-0.is

pub returns-in-0-2 : goal.returns-in-0-2
unfolding frame_ok
returns-in-0-2 c = either _ c.args.frame 5 (omega arith) (omega arith) refl refl

pub returns-in-0-3 : goal.returns-in-0-3
unfolding frame_ok
returns-in-0-3 c = either _ c.args.frame 10 (omega arith) (omega arith) refl refl
