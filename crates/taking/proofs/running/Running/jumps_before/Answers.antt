-- By the test.
use mathlib.Core.Path.{◌≡◌}
use mathlib.Core.Bool.{Bool, true, not, cond, ◌&&◌}
use Prim.Native.Nat.{ℕ}
use borrow.Author.Rules.{rules}
use Rattle.taking.proofs.running.Running.jumps_before.Goals as goal

counted : (jumps n : ℕ) (b is partial : Bool) → b ≡ is → (b && not partial) ≡ true → n ≡ jumps → n ≡ cond (is && not partial) jumps 0
counted jumps n b is partial e jump en = simp (← e, jump, en)

pub returns-then-is_jump-self : goal.returns-then-is_jump-self
returns-then-is_jump-self c = search (counted, rules)
