-- What the ranges say of the plan of one kind.
use Rattle.std.specs.Prelude.{◌≡◌, refl, List, [], ◌∷◌, Bool, true, false, ◌&&◌, ◌||◌, ℕ, zero, suc, ◌≤◌, ◌<◌, get_or, eqb, leb, ltb}
use Rattle.std.proofs.Common.{arith, leb-true, ltb-true, eqb-true}
use Rattle.rules.specs.Limits.{flight, fence, rally, size_of}
use Rattle.rule_laws.specs.Tests.{both}
use Rattle.plan.specs.declared.Plan.{Plan}
use Rattle.plan.specs.View.{empty_plan}
use Rattle.ranges.specs.Ranges.{upload_ranged, plan_ranged, plans_ranged, counts_ranged, all_ranged}

pub record PlanRanges (kind : ℕ) (p : Plan) : Type 0 where
  pub len : p.len ≤ size_of kind
  pub upload : upload_ranged (size_of kind) p.len p.upload ≡ true

of_plan : (kind : ℕ) (p : Plan) → plan_ranged (size_of kind) p ≡ true → PlanRanges kind p
unfolding plan_ranged
of_plan kind p ranged =
    let parts = both (leb p.len (size_of kind)) (upload_ranged (size_of kind) p.len p.upload) ranged in
    record { len = leb-true p.len (size_of kind) parts.0; upload = parts.1 }

pub plan_ranges : (p q r : Plan) → plans_ranged p q r ≡ true → (kind : ℕ) → kind ≤ rally → PlanRanges kind (get_or (p ∷ q ∷ r ∷ []) kind empty_plan)
plan_ranges p q r ranged = go
  where
    p0 : Bool
    p0 = plan_ranged (size_of flight) p

    p1 : Bool
    p1 = plan_ranged (size_of fence) q

    p2 : Bool
    p2 = plan_ranged (size_of rally) r

    go : (kind : ℕ) → kind ≤ rally → PlanRanges kind (get_or (p ∷ q ∷ r ∷ []) kind empty_plan)
    go zero known = of_plan flight p (both p0 p1 (both (p0 && p1) p2 ranged).0).0
    go (suc zero) known = of_plan fence q (both p0 p1 (both (p0 && p1) p2 ranged).0).1
    go (suc (suc zero)) known = of_plan rally r (both (p0 && p1) p2 ranged).1
    go (suc (suc (suc kind))) known = absurd (omega arith)

-- what all ranges say
module _ (p q r : Plan) (current : ℕ) (counts : List ℕ) (ranged : all_ranged p q r current counts ≡ true) where
  abbrev current_ok : Bool
  current_ok = ltb current p.len || eqb current 0

  plans_and_current : (plans_ranged p q r && current_ok) ≡ true
  plans_and_current = (both (plans_ranged p q r && current_ok) (counts_ranged counts) ranged).0

  pub plans_ranged_lem : plans_ranged p q r ≡ true
  plans_ranged_lem = (both (plans_ranged p q r) current_ok plans_and_current).0

  pub flight_length : p.len ≤ size_of flight
  flight_length = (plan_ranges p q r plans_ranged_lem flight (omega arith)).len

  pub current_below : current < size_of flight
  current_below = go (ltb current p.len) refl (both (plans_ranged p q r) current_ok plans_and_current).1
    where
      go : (t : Bool) → ltb current p.len ≡ t → (t || eqb current 0) ≡ true → current < size_of flight
      go true e h = omega (arith, flight_length, ltb-true current p.len e)
      go false e h = omega (arith, eqb-true current 0 h)
