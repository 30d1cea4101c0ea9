-- The tests in the rule's order, each by what its function ensures.
use Prim.Native.Nat.{ℕ}
use mathlib.Core.Path.{◌≡◌, ap, ◌∙◌}
use mathlib.Core.Bool.{Bool, true, false}
use lib.Ieee.{Float}
use Rattle.std.proofs.lemmas.Result.{err_from_is_err_and}
use Rattle.rules.specs.Limits.{accepted, unsupported_frame, invalid_param1, invalid_param2}
use Rattle.rules.specs.Values.{float}
use Rattle.rules.specs.Items.{frame_ok, param_ok, place_fault, room_fault, fault_in}
use Rattle.limits.specs.Codes.{faulty}
use Rattle.item.specs.declared.Item.{Item}
use Rattle.item_rules.specs.declared.table.Row.{Row}
use Rattle.item.specs.Patterns.{patterns}
use Rattle.item_rules.specs.Table.{rule_of, row_of}
use Rattle.item_rules.proofs.Readings.{place_first, place_passed}
use Rattle.item_rules.proofs.checks.row_fault.Goals as goal

-- ---- the rule, by the outcomes of its tests
module _ (row : Row) (item : Item) (count own jumps : ℕ) (frame : Bool) (frame_is : frame ≡ frame_ok row.positional item.frame) where
  abbrev Gives : ℕ → Type 0
  Gives f = f ≡ fault_in (row_of item.command row) count own jumps (patterns item)

  frame_fault : frame ≡ false → Gives unsupported_frame
  unfolding fault_in
  frame_fault f = rw (← frame_is, f)

  module _ (f : frame ≡ true) (value1 : Float) (value1_is : value1 ≡ float item.bits1) (one : Bool) (one_is : one ≡ param_ok (rule_of row.param1) count own value1) where
    first : one ≡ param_ok (rule_of row.param1) count own (float item.bits1)
    first = one_is ∙ ap (param_ok (rule_of row.param1) count own) value1_is

    param1_fault : one ≡ false → Gives invalid_param1
    unfolding fault_in
    param1_fault p = rw (← frame_is, f, ← first, p)

    module _ (p : one ≡ true) (value2 : Float) (value2_is : value2 ≡ float item.bits2) (two : Bool) (two_is : two ≡ param_ok (rule_of row.param2) count own value2) where
      second : two ≡ param_ok (rule_of row.param2) count own (float item.bits2)
      second = two_is ∙ ap (param_ok (rule_of row.param2) count own) value2_is

      param2_fault : two ≡ false → Gives invalid_param2
      unfolding fault_in
      param2_fault q = rw (← frame_is, f, ← first, p, ← second, q)

      module _ (q : two ≡ true) where
        left : (place : ℕ) → place ≡ place_fault row.positional (patterns item) (room_fault jumps (patterns item)) → Gives place
        unfolding fault_in
        left place is = rw (← frame_is, f, ← first, p, ← second, q) is

        at_place : (place : ℕ) → place ≡ place_fault row.positional (patterns item) accepted → (place ≡ accepted → ⊥) → Gives place
        at_place place is some = left place (is ∙ place_first row.positional (patterns item) _ (λ none. some (is ∙ none)))

        room : (r : ℕ) → accepted ≡ place_fault row.positional (patterns item) accepted → r ≡ room_fault jumps (patterns item) → Gives r
        room r none is = left r (is ∙ place_passed row.positional (patterns item) _ none)

pub returns-then-not-frame_ok : goal.returns-then-not-frame_ok
returns-then-not-frame_ok c = frame_fault _ c.args.item.plain _ _ _ _ c.frame_ok.ensures c.if-not-frame_ok.true

pub returns-then-not-param_ok : goal.returns-then-not-param_ok
returns-then-not-param_ok c =
    param1_fault _ c.args.item.plain _ _ _ _ c.frame_ok.ensures c.if-not-frame_ok.false _ c.param1.ensures _ c.param_ok.ensures c.if-not-param_ok.true

pub returns-then-not-param_ok-2 : goal.returns-then-not-param_ok-2
returns-then-not-param_ok-2 c =
    param2_fault _ c.args.item.plain _ _ _ _ c.frame_ok.ensures c.if-not-frame_ok.false _ c.param1.ensures _ c.param_ok.ensures c.if-not-param_ok.false
    _ c.param2.ensures _ c.param_ok-2.ensures c.if-not-param_ok-2.true

pub returns-in_err-place_fault : goal.returns-in_err-place_fault
returns-in_err-place_fault c =
    let e = err_from_is_err_and c.from_residual.result c.from_residual.ensures.1 in
    rw (e.1, e.2)
    (at_place _ c.args.item.plain _ _ _ _ c.frame_ok.ensures c.if-not-frame_ok.false _ c.param1.ensures _ c.param_ok.ensures c.if-not-param_ok.false
    _ c.param2.ensures _ c.param_ok-2.ensures c.if-not-param_ok-2.false _ c.in_err-place_fault.ensures (faulty _))

pub returns : goal.returns
returns c =
    room _ c.args.item.plain _ _ _ _ c.frame_ok.ensures c.if-not-frame_ok.false _ c.param1.ensures _ c.param_ok.ensures c.if-not-param_ok.false
    _ c.param2.ensures _ c.param_ok-2.ensures c.if-not-param_ok-2.false _ c.in_ok-place_fault.ensures c.room_fault.ensures
