-- By the test of home, and what the function called for the other way ensures.
use Prim.Native.Nat.{ℕ}
use mathlib.Core.Path.{◌≡◌}
use mathlib.Core.Bool.{Bool, true, false}
use Rattle.rules.specs.Limits.{unsupported}
use Rattle.rules.specs.Messages.{Item}
use Rattle.rules.specs.Items.{commands, fault_among, not_home, fault}
use Rattle.item_rules.proofs.verdict.Goals as goal

module _ (home : Bool) (kind count own jumps : ℕ) (i : Item) (t : Bool) (is : t ≡ not_home home kind own i) where
  not_home_lem : t ≡ true → unsupported ≡ fault home kind count own jumps i
  unfolding fault
  not_home_lem e = rw (← is, e)

  listed : t ≡ false → (f : ℕ) → f ≡ fault_among (commands home) kind count own jumps i → f ≡ fault home kind count own jumps i
  unfolding fault
  listed e f g = rw (← is, e) g

pub returns-then-not_home : goal.returns-then-not_home
returns-then-not_home c = not_home_lem _ _ _ _ _ _ _ c.not_home.ensures c.if-not_home.true

pub returns : goal.returns
returns c = listed _ _ _ _ _ _ _ c.not_home.ensures c.if-not_home.false _ c.listed_fault.ensures
