-- "A fresh start: .. each kind in the first half of the store." The rules have no halves, so it is said of the state.
use Rattle.std.specs.Prelude.{ℕ, zero, suc, ◌≡◌, refl, Bool, false}
use Rattle.plan.specs.View.{plan_of, fresh_state}

pub fresh_first_half : (home : Bool) (kind : ℕ) → (plan_of (fresh_state home) kind).half ≡ false
fresh_first_half home zero = refl
fresh_first_half home (suc zero) = refl
fresh_first_half home (suc (suc zero)) = refl
fresh_first_half home (suc (suc (suc kind))) = refl
