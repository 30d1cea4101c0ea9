-- Where a host writes items: WRITE of a call script.
use Rattle.std.specs.Prelude.{ℕ, Bool, not, cond, leb}
use Rattle.rules.specs.Limits.{rally}
use Rattle.places.specs.Forms.{words, offset_of}
use Rattle.plan.specs.declared.State.{State}
use Rattle.plan.specs.View.{plan_of}

-- "from item a of the plan of kind b0, in the half that the plan is in", or at "the same place in the other half"; 0 above the last kind
unfoldable pub item_word : State → (kind : ℕ) (other : Bool) (n : ℕ) → ℕ
item_word st kind other n = let half = (plan_of st kind).half in cond (leb kind rally) (offset_of words (cond other (not half) half) kind n) 0
