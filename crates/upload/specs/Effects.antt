-- The state after what a call does to it.
use Rattle.std.specs.Prelude.{ℕ, Bool, true, false, cond, not, ◌&&◌, List, [], ◌∷◌, ◌==◌, slice_set}
use Rattle.rules.specs.Limits.{flight, kinds}
use Rattle.rules.specs.Model.{no_counts}
use Rattle.plan.specs.declared.State.{State}
use Rattle.plan.specs.declared.Plan.{Plan}
use Rattle.plan.specs.View.{plan_of}
use Rattle.upload.specs.declared.Effect.{Effect}
use Rattle.upload.specs.declared.Effect.TheVariants.{Nothing, Turns, Renews, Changes, EmptiesAll, Chooses}
use Rattle.upload.specs.Turns.{emptied}

-- a kind's plan becomes another
abbrev pub turned_state : State → (kind : ℕ) → Plan → State
turned_state st kind p = record { plans = slice_set st.plans kind p; current = st.current; begun = st.begun; home = st.home; counts = st.counts }

-- it is replaced or emptied, and the flight plan's progress begins anew; or a part of it is replaced, and the flight plan's jump counts alone do
unfoldable pub renewed_state : (partial : Bool) → State → (kind : ℕ) → Plan → State
renewed_state partial st kind p =
    record {
      plans = slice_set st.plans kind p;
      current = cond (kind == flight && not partial) 0 st.current;
      begun = cond (kind == flight && not partial) false st.begun;
      home = st.home;
      counts = cond (kind == flight) no_counts st.counts;
    }

-- the plans of some kinds are emptied, one after the other
abbrev pub emptied_state : State → List ℕ → State
emptied_state st [] = st
emptied_state st (kind ∷ ks) = emptied_state (renewed_state false st kind (emptied (plan_of st kind))) ks

-- an item is made current, not yet begun
abbrev pub chosen_state : State → (seq : ℕ) → State
chosen_state st seq = record { plans = st.plans; current = seq; begun = false; home = st.home; counts = st.counts }

abbrev pub applied : State → (kind : ℕ) → Effect → State
applied st kind Nothing = st
applied st kind (Turns p) = turned_state st kind p
applied st kind (Renews p) = renewed_state false st kind p
applied st kind (Changes p) = renewed_state true st kind p
applied st kind EmptiesAll = emptied_state st kinds
applied st kind (Chooses seq) = chosen_state st seq
