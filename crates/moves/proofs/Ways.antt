-- The two ways of the move: refused, and done.
use Prim.Native.Nat.{ℕ, ◌<◌, ◌≤◌}
use native.Mathlib.Omega.{arith}
use mathlib.Core.Path.{◌≡◌, refl, sym, ap, ◌∙◌}
use mathlib.Core.List.{List, [], ◌∷◌}
use mathlib.Core.Bool.{Bool, true}
use lib.ListN.{length, get_or}
use borrow.Author.Tests.{le-leb}
use Rattle.rules.specs.Limits.{flight, fence, rally, size_of, no_reply}
use Rattle.rules.specs.Model.{in_range}
use Rattle.rule_laws.specs.Kinds.{each_kind}
use Rattle.limits.specs.declared.Refusal.{Refusal}
use Rattle.limits.specs.declared.Refusal.TheVariants.{ShortReply, EmptyPayload, NotRead, NotForUs, ShortStore, OutOfRange}
use Rattle.limits.specs.Codes.{refusal_code}
use Rattle.places.specs.Forms.{Store, bytes}
use Rattle.plan.specs.declared.State.{State}
use Rattle.plan.specs.declared.Plan.{Plan}
use Rattle.plan.specs.View.{empty_plan, plan_of, view_in}
use Rattle.ranges.specs.Ranges.{plans_ranged, all_ranged, in_range_lem}
use Rattle.ranges.specs.Ranged.{PlanRanges, plans_ranged_lem, plan_ranges}
use Rattle.upload.specs.Turns.{ended}
use Rattle.moves.specs.Moves.{outcome_of, MovesToWords}
use Rattle.moves.specs.Outcome.{Movable, movable}
use Rattle.moves.specs.Moving.{moved_plans, ended_state}
use Rattle.moves.proofs.Moving.{plans_length, plans_moved, plans_beside}

-- a refusal is another outcome
pub not_moved : (r : Refusal) → refusal_code r ≡ no_reply → ⊥
not_moved ShortReply e = omega arith
not_moved EmptyPayload e = omega arith
not_moved NotRead e = omega arith
not_moved NotForUs e = omega arith
not_moved ShortStore e = omega arith
not_moved OutOfRange e = omega arith

module _ (st : State) (old new : Store) (ranged : Bool) (outcome : ℕ)
    (test : ranged ≡ all_ranged (plan_of st flight) (plan_of st fence) (plan_of st rally) st.current st.counts)
    (said : outcome ≡ outcome_of ranged (length old) (length new)) where
  answered : outcome ≡ outcome_of (in_range (view_in bytes st old)) (length old) (length new)
  answered = said ∙ ap (λ (t : Bool). outcome_of t (length old) (length new)) (in_range_lem bytes st old ranged test)

  pub refused : (outcome ≡ no_reply → ⊥) → MovesToWords st old new st new outcome
  refused other =
      record {
        answer = answered;
        shown = λ e. absurd (other e);
        halves = λ kind known. refl;
        unchanged = λ e. (refl, refl);
        beside = λ i e. refl;
        long = refl;
      }

  module _ (done : outcome ≡ no_reply) where
    pub facts : Movable ranged (length old) (length new)
    facts = movable ranged (length old) (length new) (sym said ∙ done)

    pub plans_in_range : plans_ranged (plan_of st flight) (plan_of st fence) (plan_of st rally) ≡ true
    plans_in_range = plans_ranged_lem (plan_of st flight) (plan_of st fence) (plan_of st rally) st.current st.counts (sym test ∙ facts.in_range)

    within : (kind : ℕ) → kind ≤ rally → (plan_of st kind).len ≤ size_of kind
    within kind known =
        let of : (k : ℕ) → k ≤ rally → PlanRanges k (get_or (plan_of st flight ∷ plan_of st fence ∷ plan_of st rally ∷ []) k empty_plan) =
        plan_ranges (plan_of st flight) (plan_of st fence) (plan_of st rally) plans_in_range in
        each_kind (λ (k : ℕ). (plan_of st k).len ≤ size_of k) (of flight (omega arith)).len (of fence (omega arith)).len (of rally (omega arith)).len kind (le-leb kind rally known)

    halves_stay : (kind : ℕ) → kind ≤ rally → (plan_of (ended_state st) kind).half ≡ (plan_of st kind).half
    halves_stay kind known = each_kind (λ (k : ℕ). (plan_of (ended_state st) k).half ≡ (plan_of st k).half) refl refl refl kind (le-leb kind rally known)

    moves_all : MovesToWords st old new (ended_state st) (moved_plans old new (plan_of st flight) (plan_of st fence) (plan_of st rally)) outcome
    moves_all =
        record {
          answer = answered;
          shown = λ e. plans_moved st old within new facts.new_long;
          halves = halves_stay;
          unchanged = λ other. absurd (other done);
          beside = plans_beside st old within new facts.new_long;
          long = plans_length st old within new facts.new_long;
        }

    -- the state and the store as the code has them
    pub moves :
        (ps : List Plan) (new' : Store) → length ps ≡ 3 → ((i : ℕ) → i < 3 → get_or ps i empty_plan ≡ ended (get_or st.plans i empty_plan))
        → new' ≡ moved_plans old new (plan_of st flight) (plan_of st fence) (plan_of st rally)
        → MovesToWords st old new (record { plans = ps; current = st.current; begun = st.begun; home = st.home; counts = st.counts }) new' outcome
    moves (p ∷ q ∷ r ∷ []) new' long at es = rw (at 0 (omega arith), at 1 (omega arith), at 2 (omega arith), es) moves_all
    moves [] new' long at es = absurd (omega arith)
    moves (p ∷ []) new' long at es = absurd (omega arith)
    moves (p ∷ q ∷ []) new' long at es = absurd (omega arith)
    moves (p ∷ q ∷ r ∷ s ∷ ps) new' long at es = absurd (omega arith)
