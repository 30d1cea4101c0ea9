-- What a store shows after the items of the three plans of a state were moved.
use Prim.Native.Nat.{ℕ, ◌≤◌}
use Rattle.std.proofs.Common.{arith, ◌∙◌}
use Rattle.std.specs.Prelude.{◌≡◌, false, ◌||◌, length, get_or}
use Rattle.std.proofs.Math.Path.{refl}
use Rattle.rules.specs.Limits.{flight, fence, rally, size_of}
use Rattle.rule_laws.specs.Tests.{neither, outside}
use Rattle.places.specs.Forms.{Store, words, bytes, least, offset_of, items_in}
use Rattle.plan.specs.declared.State.{State}
use Rattle.plan.specs.View.{plan_of, upload_in, view_in, view}
use Rattle.moves.specs.Moves.{placed_from, moved, in_plan, in_plans}
use Rattle.moves.specs.Moving.{moved_items, moved_plans, moved_length, moved_items_lem, moved_apart, moved_beside, ended_state}

-- the three plans of a state, each with no more items than its kind's size
module _ (st : State) (old : Store) (within : (kind : ℕ) → kind ≤ rally → (plan_of st kind).len ≤ size_of kind) where
  -- the store with the plan of a kind moved into it
  abbrev move_one : (kind : ℕ) → Store → Store
  move_one kind s = moved_items old s (plan_of st kind).half kind (plan_of st kind).len

  -- a store of words shows what was moved of a kind
  abbrev Shows : (kind : ℕ) → Store → Type 0
  Shows kind s = items_in words s (plan_of st kind).half kind (plan_of st kind).len ≡ placed_from kind 0 (items_in bytes old (plan_of st kind).half kind (plan_of st kind).len)

  module _ (s : Store) (long : least words ≤ length s) (kind : ℕ) (known : kind ≤ rally) where
    one_length : length (move_one kind s) ≡ length s
    one_length = moved_length old s long (plan_of st kind).half kind known (plan_of st kind).len (within kind known)

    one_long : least words ≤ length (move_one kind s)
    one_long = omega (arith, one_length)

    one_shown : Shows kind (move_one kind s)
    one_shown = moved_items_lem old s long (plan_of st kind).half kind known (plan_of st kind).len (within kind known)

    -- what was moved before stays
    others_shown : (other : ℕ) → other ≤ rally → (other ≡ kind → ⊥) → Shows other s → Shows other (move_one kind s)
    others_shown other known' apart shown =
        moved_apart old s long (plan_of st kind).half kind known (plan_of st kind).len (within kind known) (plan_of st other).half other (plan_of st other).len known' (within other known') apart
        ∙ shown

    one_beside : (i : ℕ) → in_plan st kind i ≡ false → get_or (move_one kind s) i 0 ≡ get_or s i 0
    one_beside i e =
        moved_beside old s long (plan_of st kind).half kind known (plan_of st kind).len (within kind known) i
        (outside (offset_of words (plan_of st kind).half kind 0) (offset_of words (plan_of st kind).half kind (plan_of st kind).len) i e)

  -- the three plans, one after the other
  module _ (new : Store) (long : least words ≤ length new) where
    abbrev after_flight : Store
    after_flight = move_one flight new

    abbrev after_fence : Store
    after_fence = move_one fence after_flight

    abbrev after_all : Store
    after_all = moved_plans old new (plan_of st flight) (plan_of st fence) (plan_of st rally)

    long_flight : least words ≤ length after_flight
    long_flight = one_long new long flight (omega arith)

    long_fence : least words ≤ length after_fence
    long_fence = one_long after_flight long_flight fence (omega arith)

    pub plans_length : length after_all ≡ length new
    unfolding moved_plans
    plans_length = one_length after_fence long_fence rally (omega arith) ∙ one_length after_flight long_flight fence (omega arith) ∙ one_length new long flight (omega arith)

    fence_shown : Shows fence after_all
    unfolding moved_plans
    fence_shown = others_shown after_fence long_fence rally (omega arith) fence (omega arith) (λ e. omega arith) (one_shown after_flight long_flight fence (omega arith))

    flight_shown : Shows flight after_all
    unfolding moved_plans
    flight_shown =
        others_shown after_fence long_fence rally (omega arith) flight (omega arith) (λ e. omega arith)
        (others_shown after_flight long_flight fence (omega arith) flight (omega arith) (λ e. omega arith) (one_shown new long flight (omega arith)))

    rally_shown : Shows rally after_all
    unfolding moved_plans
    rally_shown = one_shown after_fence long_fence rally (omega arith)

    pub plans_moved : view (ended_state st) after_all ≡ moved (view_in bytes st old)
    unfolding view_in upload_in moved
    plans_moved = rw (flight_shown, fence_shown, rally_shown) refl

    pub plans_beside : (i : ℕ) → in_plans st i ≡ false → get_or after_all i 0 ≡ get_or new i 0
    unfolding moved_plans
    plans_beside i e =
        let two = neither (in_plan st flight i || in_plan st fence i) (in_plan st rally i) e in
        let one = neither (in_plan st flight i) (in_plan st fence i) two.0 in
        one_beside after_fence long_fence rally (omega arith) i two.1
        ∙ one_beside after_flight long_flight fence (omega arith) i one.1
        ∙ one_beside new long flight (omega arith) i one.0
