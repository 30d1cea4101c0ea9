-- What the view shows of one kind, and how it changes with one plan.
use Rattle.std.specs.Prelude.{ℕ, List, map, Bool, true, ◌&&◌, length, get_or, eqb, Option}
use Rattle.std.proofs.Math.Path.{◌≡◌, refl}
use Rattle.std.proofs.Common.{ap, ◌∙◌}
use Rattle.std.proofs.Math.Bool.{false, not, cond}
use Rattle.std.proofs.Math.ListN.{set}
use Rattle.rules.specs.Limits.{flight, fence, rally, kinds}
use Rattle.rules.specs.Model as model
use Rattle.rules.specs.Model.{Model, with_plan}
use Rattle.rules.specs.Calls.{is_known}
use Rattle.rule_laws.specs.Kinds.{each_kind, known_below}
use Rattle.rule_laws.specs.Lists.{at_set}
use Rattle.plan.specs.declared.State.{State}
use Rattle.plan.specs.declared.Plan.{Plan}
use Rattle.plan.specs.declared.Run.{Run}
use Rattle.places.specs.Forms.{Store, Form, length_items}
use Rattle.plan.specs.View.{empty_plan, plan_of, plan_in, upload_in, view_in}
use Rattle.upload.specs.Turns.{with_upload}
use Rattle.upload.specs.Effects.{turned_state, renewed_state}

module _ (F : Form) where
  module _ (st : State) (s : Store) where
    -- the plan and the upload of a kind, as shown
    pub plan_shown : (k : ℕ) → is_known k ≡ true → model.plan_of (view_in F st s).shown k ≡ plan_in F s k (plan_of st k)
    unfolding view_in
    plan_shown = each_kind (λ (k : ℕ). model.plan_of (view_in F st s).shown k ≡ plan_in F s k (plan_of st k)) refl refl refl

    pub upload_shown : (k : ℕ) → is_known k ≡ true → model.upload_of (view_in F st s) k ≡ upload_in F s (not (plan_of st k).half) k (plan_of st k).upload
    unfolding view_in
    upload_shown = each_kind (λ (k : ℕ). model.upload_of (view_in F st s) k ≡ upload_in F s (not (plan_of st k).half) k (plan_of st k).upload) refl refl refl

    pub length_shown : (k : ℕ) → is_known k ≡ true → model.length_of (view_in F st s).shown k ≡ (plan_of st k).len
    length_shown k known = ap (λ (p : model.Plan). length p.items) (plan_shown k known) ∙ length_items F s (plan_of st k).half k (plan_of st k).len

  module _ (st : State) (s : Store) (three : length st.plans ≡ length kinds) where
    at : (k j : ℕ) (p : Plan) → is_known k ≡ true → get_or (set st.plans k p) j empty_plan ≡ cond (eqb k j) p (plan_of st j)
    at k j p known = at_set st.plans k j p empty_plan (rw three (known_below k known))

    -- a plan's turn, shown: kind by kind
    abbrev shown_with : (k : ℕ) (p : Plan) → List model.Plan
    shown_with k p = map (λ (j : ℕ). plan_in F s j (cond (eqb k j) p (plan_of st j))) kinds

    abbrev uploads_with : (k : ℕ) (p : Plan) → List model.Upload
    uploads_with k p = map (λ (j : ℕ). upload_in F s (not (cond (eqb k j) p (plan_of st j)).half) j (cond (eqb k j) p (plan_of st j)).upload) kinds

    view_turned :
        (k : ℕ) (p : Plan) → is_known k ≡ true
        → view_in F (turned_state st k p) s
        ≡ record { shown = record { plans = shown_with k p; current = st.current; begun = st.begun; counts = st.counts; home = st.home }; uploads = uploads_with k p }
    unfolding view_in
    view_turned k p known = rw (at k flight p known, at k fence p known, at k rally p known)

    -- only the upload of one kind changes
    pub view_upload :
        (k : ℕ) (u : Option Run) → is_known k ≡ true
        → view_in F (turned_state st k (with_upload (plan_of st k) u)) s
        ≡ record { shown = (view_in F st s).shown; uploads = set (view_in F st s).uploads k (upload_in F s (not (plan_of st k).half) k u) }
    unfolding view_in
    view_upload k u known =
        view_turned k (with_upload (plan_of st k) u) known
        ∙ each_kind
        (λ (k : ℕ). ◌≡◌ {A = Model}
        (record { shown = record { plans = shown_with k (with_upload (plan_of st k) u); current = st.current; begun = st.begun; counts = st.counts; home = st.home }; uploads = uploads_with k (with_upload (plan_of st k) u) })
        (record { shown = (view_in F st s).shown; uploads = set (view_in F st s).uploads k (upload_in F s (not (plan_of st k).half) k u) }))
        refl refl refl k known

    -- the plan of one kind is replaced or emptied, or a part of it is replaced
    pub view_renewed :
        (partial : Bool) (k : ℕ) (p : Plan) → is_known k ≡ true
        → view_in F (renewed_state partial st k p) s
        ≡ record { shown = with_plan partial k (plan_in F s k p) (view_in F st s).shown; uploads = set (view_in F st s).uploads k (upload_in F s (not p.half) k p.upload) }
    unfolding view_in with_plan renewed_state
    view_renewed partial k p known =
        rw (at k flight p known, at k fence p known, at k rally p known)
        (each_kind
        (λ (k : ℕ). ◌≡◌ {A = Model}
        (record { shown = record { plans = shown_with k p; current = cond (eqb k flight && not partial) 0 st.current; begun = cond (eqb k flight && not partial) false st.begun; counts = cond (eqb k flight) model.no_counts st.counts; home = st.home }; uploads = uploads_with k p })
        (record { shown = with_plan partial k (plan_in F s k p) (view_in F st s).shown; uploads = set (view_in F st s).uploads k (upload_in F s (not p.half) k p.upload) }))
        refl refl refl k known)
