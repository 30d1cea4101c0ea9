-- A result of the rules is 0 exactly where there is no fault, and otherwise names the fault.
use Rattle.std.specs.Prelude.{ℕ, ◌≡◌, true, false, ◌==◌}
use Rattle.std.proofs.Common.{sym, ◌∙◌}
use borrow.Author.Tests.{eq-eqb, ne_eqb}
use Rattle.rules.specs.Limits.{accepted}
use Rattle.limits.specs.declared.Fault.{Fault}
use Rattle.limits.specs.Codes.{fault_code, faulty}

pub not_accepted : (f : Fault) (result : ℕ) → fault_code f ≡ result → (result == accepted) ≡ false
not_accepted f result e = ne_eqb result accepted (λ zero. faulty f (e ∙ zero))

pub is_accepted : (result : ℕ) → accepted ≡ result → (result == accepted) ≡ true
is_accepted result e = eq-eqb result accepted (sym e)
