-- The ranges of outcome 15 over a state alone; `ranged_view` has them as the rules' own.
use Rattle.std.specs.Prelude.{◌≡◌, List, Bool, true, ◌&&◌, ◌||◌, ℕ, eqb, leb, ltb, Option, Some, None}
use Rattle.std.proofs.Math.Path.{refl}
use Rattle.std.proofs.Common.{sym, ◌∙◌}
use Rattle.std.proofs.Math.Bool.{and-true, and_assoc}
use Rattle.rules.specs.Limits.{flight, fence, rally, size_of, max_repeats, max_runs}
use Rattle.rules.specs.Model.{every, in_range, task_in_range, upload_in_range}
use Rattle.plan.specs.declared.State.{State}
use Rattle.plan.specs.declared.Plan.{Plan}
use Rattle.plan.specs.declared.Run.{Run}
use Rattle.places.specs.Forms.{Store, Form, length_items}
use Rattle.plan.specs.View.{view_in, plan_of, task_in, upload_in}

-- "a running upload's count 1 to size, .. its repeats 0 to 5"; its first, last and next number, beside a plan of `len` items, by the rules' own test
abbrev pub run_ranged : (size len : ℕ) → Run → Bool
run_ranged size len r = leb 1 r.count && leb r.count size && task_in_range len (task_in r) r.next && leb r.repeats max_repeats

abbrev pub upload_ranged : (size len : ℕ) → Option Run → Bool
upload_ranged size len None = true
upload_ranged size len (Some r) = run_ranged size len r

-- "a plan's length at most its size"
unfoldable pub plan_ranged : (size : ℕ) → Plan → Bool
plan_ranged size p = leb p.len size && upload_ranged size p.len p.upload

-- "jump counts 0 to 32767"
unfoldable pub counts_ranged : List ℕ → Bool
counts_ranged counts = every (λ (n : ℕ). leb n max_runs) counts

-- the plans of the three kinds
abbrev pub plans_ranged : (flight fence rally : Plan) → Bool
plans_ranged p q r = plan_ranged (size_of flight) p && plan_ranged (size_of fence) q && plan_ranged (size_of rally) r

-- all numbers: "the current item below the flight length, or 0"
abbrev pub all_ranged : (flight fence rally : Plan) (current : ℕ) (counts : List ℕ) → Bool
all_ranged p q r current counts = plans_ranged p q r && (ltb current p.len || eqb current 0) && counts_ranged counts

module _ (F : Form) where
  upload_ranged_lem : (store : Store) (half : Bool) (kind len : ℕ) (u : Option Run) → upload_in_range kind len (upload_in F store half kind u) ≡ upload_ranged (size_of kind) len u
  unfolding upload_in_range upload_in
  upload_ranged_lem store half kind len None = refl
  upload_ranged_lem store half kind len (Some r) = refl

  pub ranged_view : (st : State) (store : Store) → in_range (view_in F st store) ≡ all_ranged (plan_of st flight) (plan_of st fence) (plan_of st rally) st.current st.counts
  unfolding in_range view_in plan_ranged counts_ranged
  ranged_view st store = simp (length_items F, upload_ranged_lem, and-true, and_assoc)

  -- a test of a state's numbers is the rules' own of what it shows
  pub in_range_lem : (st : State) (store : Store) (ranged : Bool) → ranged ≡ all_ranged (plan_of st flight) (plan_of st fence) (plan_of st rally) st.current st.counts
      → ranged ≡ in_range (view_in F st store)
  in_range_lem st store ranged e = e ∙ sym (ranged_view st store)
