-- The search from where it begins.
use Prim.Native.Nat.{ℕ, ◌≤◌}
use native.Mathlib.Omega.{arith}
use mathlib.Core.Path.{◌≡◌, ap, ◌∙◌}
use mathlib.Core.List.{List}
use mathlib.Core.Bool.{Bool, ◌&&◌}
use lib.Dec.{eqb}
use Rattle.rules.specs.Limits.{flight, size_of, max_followed}
use Rattle.rules.specs.Payload.{Bytes}
use Rattle.rules.specs.Model.{flown}
use Rattle.rules.specs.NextCommand as rules
use Rattle.rule_laws.specs.Tests.{either}
use borrow.Author.Rules.{rules}
use Rattle.next_command.proofs.next.Goals as goal

module _ (home : Bool) (items : List Bytes) (counts : List ℕ) (f : rules.Found) (would from first : ℕ) where
  begins : f ≡ rules.search home max_followed items counts from → from ≡ flown home would → would ≡ first → f ≡ rules.search home max_followed items counts (flown home first)
  begins e is was = e ∙ ap (rules.search home max_followed items counts) (is ∙ ap (flown home) was)

-- item 1 is in the plan's size too
within : (home : Bool) (would from : ℕ) → from ≡ flown home would → would ≤ size_of flight → from ≤ size_of flight
unfolding flown
within home would from e most = rw e (either (λ (n : ℕ). n ≤ size_of flight) (home && eqb would 0) (λ t. omega arith) (λ t. most))

pub find-requires : goal.find-requires
find-requires c = search (within, rules)

pub returns : goal.returns
returns c = search (begins, rules)
