-- Kind first: what a message's kind covers says whether the message may have it, but of an ACK. Then a message that speaks of one plan does what it does to that.
use Prim.Native.Nat.{ℕ, ◌≤◌, ◌<◌}
use native.Mathlib.Omega.{arith}
use mathlib.Core.Path.{◌≡◌, refl, sym, subst}
use mathlib.Core.List.{List, [], ◌∷◌}
use mathlib.Core.Bool.{Bool, true, ◌||◌}
use lib.Dec.{eqb}
use lib.ListN.{length}
use borrow.Author.Rules.{rules}
use Rattle.std.proofs.lemmas.Bool.{le-leb}
use Rattle.rules.specs.Limits.{flight, fence, rally, kinds, every_kind}
use Rattle.rules.specs.Payload.{Bytes}
use Rattle.rules.specs.Layouts.{set_current_id, clear_all_id}
use Rattle.rules.specs.Messages.{Station, message_of, decode}
use Rattle.rules.specs.Calls.{is_known}
use Rattle.rules.specs.Step.{kind_ok}
use Rattle.limits.specs.declared.Kind.{Kind}
use Rattle.limits.specs.declared.Kind.TheVariants.{Flight, Fence, Rally}
use Rattle.limits.specs.Kinds.{kind_number, kind_known}
use Rattle.places.specs.Forms.{Store, words}
use Rattle.plan.specs.declared.Plan.{Plan}
use Rattle.ranges.specs.Ranges.{plans_ranged}
use Rattle.ranges.specs.Ranged.{PlanRanges, plan_ranges}
use Rattle.refusal.specs.Refusals.{request_of}
use Rattle.answers.specs.declared.Handled.{Handled}
use Rattle.protocol.specs.declared.clears.Covered.{Covered}
use Rattle.protocol.specs.declared.clears.Covered.TheVariants.{Of, Every}
use Rattle.protocol.specs.Covers.{covered_number}
use Rattle.protocol.specs.Handlers.{DoneBy}
use Rattle.record_steps.specs.Doing.{plan_among, plan_done, known_done, message_done}
use Rattle.protocol.proofs.Requests.{clear_ok, ack_ok, one_ok, past_not_ok, clear_not_ok, set_not_ok, says_nothing, of_one_plan}
use Rattle.protocol.proofs.answer.Goals as goal
use Rattle.protocol.proofs.answer.Goals.{in_default-via-in-45+in_default, in_default-via-in-41+in-Ok+in_default, in_default-via-in-41+in_default, in_default-via-in_default+in-Ok+in_default, in_default-via-in_default+in_default}

covers_ok : (kinds : Covered) → (is_known (covered_number kinds) || eqb (covered_number kinds) every_kind) ≡ true
covers_ok (Of Flight) = refl
covers_ok (Of Fence) = refl
covers_ok (Of Rally) = refl
covers_ok Every = refl

of_known : (kinds : Covered) (known : Kind) (kind : ℕ) → kinds ≡ Of known → covered_number kinds ≡ kind → kind ≤ rally
of_known kinds known kind of is = subst (λ (k : ℕ). k ≤ rally) is (rw of (kind_known known))

every_past : (kinds : Covered) (kind : ℕ) → kinds ≡ Every → covered_number kinds ≡ kind → rally < kind
every_past kinds kind of is = subst (λ (k : ℕ). rally < k) is (rw of (omega arith))

of_its_kind : (kind : ℕ) (x : Plan) (ps : List Plan) → length ps ≡ length kinds → kind ≤ rally → x ≡ plan_among ps kind
    → plans_ranged (plan_among ps flight) (plan_among ps fence) (plan_among ps rally) ≡ true → PlanRanges kind x
of_its_kind kind x (p ∷ q ∷ r ∷ []) three known is ranged = subst (PlanRanges kind) (sym is) (plan_ranges p q r ranged kind known)
of_its_kind kind x [] three known is ranged = absurd (omega arith)
of_its_kind kind x (p ∷ []) three known is ranged = absurd (omega arith)
of_its_kind kind x (p ∷ q ∷ []) three known is ranged = absurd (omega arith)
of_its_kind kind x (p ∷ q ∷ r ∷ s ∷ ps) three known is ranged = absurd (omega arith)

turns_plan : (home : Bool) (ps : List Plan) (current : ℕ) (s : Store) (from : Station) (clock kind id : ℕ) (own : Bytes) (x : Plan) (s' : Store) (b b' : Bytes) (h : Handled)
    → kind_ok kind (request_of (decode id own)) ≡ true → (id ≡ set_current_id → ⊥) → (id ≡ clear_all_id → ⊥)
    → DoneBy (plan_done words home x current s from clock kind (request_of (decode id own))) s' b b' h → x ≡ plan_among ps kind
    → DoneBy (message_done words home ps current s from clock kind (request_of (decode id own))) s' b b' h
unfolding message_done
turns_plan home ps current s from clock kind id own x s' b b' h ok n41 n45 done is =
    rw (ok, of_one_plan home ps current s from clock kind id own n41 n45, sym is) done

pub turn-requires-clause-in_range : goal.turn-requires-clause-in_range
turn-requires-clause-in_range c =
    let three : length c.args.plans.now ≡ length kinds = search rules in
    let known = c.in_default-Ok-Of.known in
    (of_its_kind (kind_number known) _ c.args.plans.now three (kind_known known) (search rules) c.requires.0, c.requires.1, c.requires.2)

pub returns-in-47-default : goal.returns-in-47-default
unfolding message_done known_done plan_done decode message_of
returns-in-47-default c = let ok = ack_ok c.args.kind c.args.id c.args.own.now c.in-47-default.is-0 in search (ok, says_nothing, rules)

pub returns-in-45-Ok : goal.returns-in-45-Ok
unfolding message_done known_done decode message_of
returns-in-45-Ok c = let ok = covers_ok c.in-45-Ok.covered in search (ok, clear_ok, rules)

pub returns-in-41-Ok-Of : goal.returns-in-41-Ok-Of
unfolding message_done known_done decode message_of kind_ok
returns-in-41-Ok-Of c =
    let known : c.args.kind ≤ rally = search (of_known, rules) in
    let ok : is_known c.args.kind ≡ true = le-leb c.args.kind rally known in
    search (ok, rules)

pub returns-in_default-Ok-Of : goal.returns-in_default-Ok-Of
returns-in_default-Ok-Of c =
    let rest = c.in_default-Ok-Of.is-0 in
    let is : kind_number c.in_default-Ok-Of.known ≡ c.args.kind = search rules in
    let known : c.args.kind ≤ rally = search (of_known, rules) in
    let ok = one_ok c.args.kind c.args.id c.args.own.now rest.0.1 rest.0.0.1 known in
    turns_plan _ _ _ _ _ _ _ _ _ _ _ _ _ _ ok rest.1 rest.0.1 (rw is at c.turn.ensures) (search rules)

pub returns-in_default : goal.returns-in_default
unfolding message_done
returns-in_default c = elim c.in_default.branch [
  | in_default-via-in-45+in_default w ↦
      let no = clear_not_ok c.args.kind c.args.id c.args.own.now w.in_default.is-0 w.in_default.ensures.0 w.in_default.ensures.1 in
      search (no, rules)
  | in_default-via-in-41+in-Ok+in_default w ↦
      let past : rally < c.args.kind = search (every_past, rules) in
      let no = set_not_ok c.args.kind c.args.id c.args.own.now w.in_default.is-0 past in
      search (no, rules)
  | in_default-via-in-41+in_default w ↦
      let past : rally < c.args.kind = search rules in
      let no = set_not_ok c.args.kind c.args.id c.args.own.now w.in_default.is-0 past in
      search (no, rules)
  | in_default-via-in_default+in-Ok+in_default w ↦
      let past : rally < c.args.kind = search (every_past, rules) in
      let no = past_not_ok c.args.kind c.args.id c.args.own.now w.in_default.is-0.0.1 w.in_default.is-0.0.0.1 past in
      search (no, rules)
  | in_default-via-in_default+in_default w ↦
      let past : rally < c.args.kind = search rules in
      let no = past_not_ok c.args.kind c.args.id c.args.own.now w.in_default.is-0.0.1 w.in_default.is-0.0.0.1 past in
      search (no, rules)
]
