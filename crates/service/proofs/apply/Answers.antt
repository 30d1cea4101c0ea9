-- By the effect: what each arm makes of the state is what the effect makes of it.
use Prim.Native.Nat.{ℕ, ◌<◌}
use native.Mathlib.Omega.{arith}
use mathlib.Core.Path.{◌≡◌, refl}
use mathlib.Core.List.{List, [], ◌∷◌}
use mathlib.Core.Bool.{Bool}
use lib.ListN.{length, get_or, set}
use borrow.Author.Tests.{eq-eqb, ne_eqb}
use borrow.Author.Rules.{rules}
use Rattle.rules.specs.Limits.{flight, fence, rally, kinds}
use Rattle.rules.specs.Model.{no_counts}
use Rattle.plan.specs.declared.State.{State}
use Rattle.plan.specs.declared.Plan.{Plan}
use Rattle.plan.specs.View.{empty_plan, plan_of, fresh_state}
use Rattle.upload.specs.Turns.{emptied}
use Rattle.upload.specs.Effects.{turned_state, renewed_state, emptied_state, applied}
use Rattle.upload.specs.declared.Effect.{Effect}
use Rattle.upload.specs.declared.Effect.TheVariants.{Turns, Renews, Changes, EmptiesAll}
use Rattle.service.proofs.apply.Goals as goal

-- all of them emptied, one after the other
all_emptied :
    (l : List Plan) → length l ≡ length kinds → (current : ℕ) (begun home : Bool) (counts : List ℕ)
    → ◌≡◌ {A = State}
    (record {
      plans = emptied (get_or l flight empty_plan) ∷ emptied (get_or l fence empty_plan) ∷ emptied (get_or l rally empty_plan) ∷ [];
      current = (fresh_state home).current;
      begun = (fresh_state home).begun;
      home = (fresh_state home).home;
      counts = (fresh_state home).counts;
    })
    (emptied_state (record { plans = l; current = current; begun = begun; home = home; counts = counts }) kinds)
unfolding renewed_state
all_emptied (a ∷ b ∷ c ∷ []) three current begun home counts = refl
all_emptied [] three current begun home counts = absurd (omega arith)
all_emptied (a ∷ []) three current begun home counts = absurd (omega arith)
all_emptied (a ∷ b ∷ []) three current begun home counts = absurd (omega arith)
all_emptied (a ∷ b ∷ c ∷ d ∷ l) three current begun home counts = absurd (omega arith)

module _ (st : State) (kind : ℕ) (e : Effect) where
  turns : (p : Plan) → e ≡ Turns p → turned_state st kind p ≡ applied st kind e
  turns p is = rw is

  renews : (p : Plan) → e ≡ Renews p → (kind ≡ flight → ⊥) → turned_state st kind p ≡ applied st kind e
  unfolding renewed_state
  renews p is other = rw (is, ne_eqb kind flight other)

  restarts : (p : Plan) (begins : State) → begins ≡ fresh_state st.home → e ≡ Renews p → kind ≡ flight
      → ◌≡◌ {A = State} (record { plans = set st.plans kind p; current = begins.current; begun = begins.begun; home = begins.home; counts = begins.counts }) (applied st kind e)
  unfolding renewed_state
  restarts p begins new is first = rw (is, new, eq-eqb kind flight first)

  changes : (p : Plan) → e ≡ Changes p → (kind ≡ flight → ⊥) → turned_state st kind p ≡ applied st kind e
  unfolding renewed_state
  changes p is other = rw (is, ne_eqb kind flight other)

  recounts : (p : Plan) → e ≡ Changes p → kind ≡ flight
      → ◌≡◌ {A = State} (record { plans = set st.plans kind p; current = st.current; begun = st.begun; home = st.home; counts = no_counts }) (applied st kind e)
  unfolding renewed_state
  recounts p is first = rw (is, eq-eqb kind flight first)

  empties : (x y z : Plan) (begins : State) → length st.plans ≡ length kinds → begins ≡ fresh_state st.home → e ≡ EmptiesAll
      → x ≡ emptied (plan_of st flight) → y ≡ emptied (plan_of st fence) → z ≡ emptied (plan_of st rally)
      → ◌≡◌ {A = State} (record { plans = x ∷ y ∷ z ∷ []; current = begins.current; begun = begins.begun; home = begins.home; counts = begins.counts }) (applied st kind e)
  empties x y z begins three new is ex ey ez = rw (is, new, ex, ey, ez) (all_emptied st.plans three st.current st.begun st.home st.counts)

pub returns-in-Turns : goal.returns-in-Turns
returns-in-Turns c = search (turns, rules)

pub returns-then-kind-eq-FLIGHT : goal.returns-then-kind-eq-FLIGHT
returns-then-kind-eq-FLIGHT c = search (restarts, rules)

pub returns-else-kind-eq-FLIGHT : goal.returns-else-kind-eq-FLIGHT
returns-else-kind-eq-FLIGHT c = search (renews, rules)

pub returns-then-kind-eq-FLIGHT-2 : goal.returns-then-kind-eq-FLIGHT-2
returns-then-kind-eq-FLIGHT-2 c = search (recounts, rules)

pub returns-else-kind-eq-FLIGHT-2 : goal.returns-else-kind-eq-FLIGHT-2
returns-else-kind-eq-FLIGHT-2 c = search (changes, rules)

mapped : (st : State) (kind : ℕ) (e : Effect) (ys : List Plan) (begins : State) → length st.plans ≡ length kinds → begins ≡ fresh_state st.home → e ≡ EmptiesAll → length ys ≡ 3
    → ((i : ℕ) → i < 3 → get_or ys i empty_plan ≡ emptied (get_or st.plans i empty_plan))
    → ◌≡◌ {A = State} (record { plans = ys; current = begins.current; begun = begins.begun; home = begins.home; counts = begins.counts }) (applied st kind e)
mapped st kind e (x ∷ y ∷ z ∷ []) begins three new is long at = empties st kind e x y z begins three new is (at 0 (omega arith)) (at 1 (omega arith)) (at 2 (omega arith))
mapped st kind e [] begins three new is long at = absurd (omega arith)
mapped st kind e (x ∷ []) begins three new is long at = absurd (omega arith)
mapped st kind e (x ∷ y ∷ []) begins three new is long at = absurd (omega arith)
mapped st kind e (x ∷ y ∷ z ∷ w ∷ ys) begins three new is long at = absurd (omega arith)

pub returns-in-EmptiesAll : goal.returns-in-EmptiesAll
returns-in-EmptiesAll c =
    let of = c.map.ensures.items in
    mapped c.args.state.now c.args.kind c.args.effect _ _ c.requires.three c.fresh-in-EmptiesAll.ensures c.in-EmptiesAll.is of.long
    (λ i low. let h = of.at i empty_plan empty_plan low in search rules)
