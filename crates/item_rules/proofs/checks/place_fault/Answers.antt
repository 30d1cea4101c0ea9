-- The tests in the rule's order. x, y and z are their patterns' values; an i32 is read back from its bits.
use Prim.Native.Nat.{ℕ, suc, ◌-◌}
use mathlib.Core.Path.{◌≡◌, ap, ◌∙◌}
use mathlib.Core.Bool.{Bool, true, false, not, ◌||◌}
use lib.IntN.{ℤ, pos, negsuc}
use lib.Ieee.{Float}
use lib.Signed.{lt_z}
use mir.Syntax.{w32}
use mir.Val.{SFits}
use borrow.Author.Rules.{rules}
use Rattle.rules.specs.Limits.{accepted, x_limit, y_limit, invalid_x, invalid_y, invalid_z}
use Rattle.rules.specs.Messages as rules
use Rattle.rules.specs.Values.{signed, within, float, finite}
use Rattle.rules.specs.Items.{place_fault}
use Rattle.values.specs.Integers.{back, within_limit}
use Rattle.item_rules.proofs.checks.place_fault.Goals as goal

-- ---- the rule, by the outcomes of the code's tests
-- a number is outside plus and minus suc k
abbrev beyond : ℕ → ℤ → Bool
beyond k v = lt_z (back v) (negsuc k) || lt_z (pos (suc k)) (back v)

module _ (positional : Bool) (i : rules.Item) where
  abbrev Gives : ℕ → Type 0
  Gives f = f ≡ place_fault positional i accepted

  elsewhere : positional ≡ false → Gives accepted
  unfolding place_fault
  elsewhere off = rw off

  module _ (on : positional ≡ true) (x : ℤ) (x_fits : SFits w32 x) (x_of : x ≡ signed i.x) where
    x_is : {t : Bool} → beyond (x_limit - 1) x ≡ t → not (within x_limit (signed i.x)) ≡ t
    x_is h = within_limit (x_limit - 1) x (signed i.x) _ x_fits x_of h

    x_fault : beyond (x_limit - 1) x ≡ true → Gives invalid_x
    unfolding place_fault
    x_fault h = rw (on, x_is h)

    module _ (inside : beyond (x_limit - 1) x ≡ false) (y : ℤ) (y_fits : SFits w32 y) (y_of : y ≡ signed i.y) where
      y_is : {t : Bool} → beyond (y_limit - 1) y ≡ t → not (within y_limit (signed i.y)) ≡ t
      y_is h = within_limit (y_limit - 1) y (signed i.y) _ y_fits y_of h

      y_fault : beyond (y_limit - 1) y ≡ true → Gives invalid_y
      unfolding place_fault
      y_fault h = rw (on, x_is inside, y_is h)

      module _ (inside' : beyond (y_limit - 1) y ≡ false) (z : Float) (z_of : z ≡ float i.z) (t : Bool) (z_is : t ≡ finite z) where
        read : t ≡ finite (float i.z)
        read = z_is ∙ ap finite z_of

        z_fault : t ≡ false → Gives invalid_z
        unfolding place_fault
        z_fault n = rw (on, x_is inside, y_is inside', ← read, n)

        none : t ≡ true → Gives accepted
        unfolding place_fault
        none n = rw (on, x_is inside, y_is inside', ← read, n)

pub returns-then-not-positional : goal.returns-then-not-positional
returns-then-not-positional c = elsewhere _ _ c.if-not-positional.true

pub returns-then-x : goal.returns-then-x
returns-then-x c = x_fault _ _ c.if-not-positional.false _ (search rules) c.x-x.ensures c.if-x.true

pub returns-then-y : goal.returns-then-y
returns-then-y c = y_fault _ _ c.if-not-positional.false _ (search rules) c.x-x.ensures c.if-x.false _ (search rules) c.y-y.ensures c.if-y.true

pub returns-then-not-is_finite : goal.returns-then-not-is_finite
returns-then-not-is_finite c =
    z_fault _ _ c.if-not-positional.false _ (search rules) c.x-x.ensures c.if-x.false _ (search rules) c.y-y.ensures c.if-y.false
    _ c.z.ensures _ c.is_finite.ensures c.if-not-is_finite.true

pub returns : goal.returns
returns c =
    none _ _ c.if-not-positional.false _ (search rules) c.x-x.ensures c.if-x.false _ (search rules) c.y-y.ensures c.if-y.false
    _ c.z.ensures _ c.is_finite.ensures c.if-not-is_finite.false
