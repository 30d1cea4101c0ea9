-- Where a host writes items, for each half.
use Prim.Native.Nat.{ℕ, ◌≤◌}
use mathlib.Core.Path.{◌≡◌}
use mathlib.Core.Bool.{Bool, true, false, not}
use borrow.Author.Tests.{le-leb}
use Rattle.rules.specs.Limits.{rally}
use Rattle.plan.specs.declared.State.{State}
use Rattle.places.specs.Forms.{words, offset_of}
use Rattle.plan.specs.View.{plan_of}
use Rattle.host.specs.Items.{item_word}

module _ (st : State) (kind : ℕ) (other : Bool) (n : ℕ) (h : kind ≤ rally) (r : ℕ) where
  pub other_half : other ≡ true → r ≡ offset_of words (not (plan_of st kind).half) kind n → r ≡ item_word st kind other n
  unfolding item_word
  other_half e is = rw (le-leb kind rally h, e) is

  pub own_half : other ≡ false → r ≡ offset_of words (plan_of st kind).half kind n → r ≡ item_word st kind other n
  unfolding item_word
  own_half e is = rw (le-leb kind rally h, e) is
