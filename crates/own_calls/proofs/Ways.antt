-- What the ways of a timer call and of "command done" need and give, over plain variables: a refused call's promise; and of any other the facts that its handler asks for, and the
-- promise by the handler's effect.
use Prim.Native.Nat.{ℕ, ◌+◌, ◌≤◌, ◌<◌}
use mathlib.Core.Path.{◌≡◌, refl, sym, ap, subst, ◌∙◌}
use mathlib.Core.List.{[]}
use mathlib.Core.Bool.{Bool, true, cond}
use lib.ListN.{length}
use lib.Dec.{ltb}
use borrow.Author.Tests.{le-leb}
use Rattle.rules.specs.Limits.{flight, fence, rally, kinds, size_of, store_words, reply_bytes_min, max_followed, max_repeats, expiry_ms}
use Rattle.rules.specs.Payload.{Bytes}
use Rattle.rules.specs.Model as model
use Rattle.rules.specs.Model.{in_range, elapsed, flown}
use Rattle.rules.specs.NextCommand as rules
use Rattle.rules.specs.Calls.{Call, timer, done, expiry, command_done, heard}
use Rattle.rules.specs.Step.{orders, command_in, on_timer}
use Rattle.rule_laws.specs.Tests.{either}
use Rattle.rule_laws.specs.Refused.{plain_stuck, timer_plain}
use Rattle.std.specs.Prelude.{Option, None, Some, Result, Ok, Err, IfOk}
use Rattle.limits.specs.declared.Kind.{Kind}
use Rattle.limits.specs.Kinds.{kind_number}
use Rattle.limits.specs.declared.Refusal.{Refusal}
use Rattle.limits.specs.Codes.{refusal_code, outcome_code, refused}
use Rattle.plan.specs.declared.State.{State}
use Rattle.plan.specs.declared.Plan.{Plan}
use Rattle.plan.specs.declared.Run.{Run}
use Rattle.places.specs.Forms.{Store, words, items_in}
use Rattle.places.proofs.Lawful.{words_lawful}
use Rattle.plan.specs.View.{plan_of, view_in, view}
use Rattle.ranges.specs.Ranges.{all_ranged, in_range_lem}
use Rattle.ranges.specs.Ranged.{flight_length, current_below}
use Rattle.refusal.specs.Refusals.{refusal_of, HeardTimer, HeardDone, timer_heard, done_heard}
use Rattle.upload.specs.declared.Turned.{Turned}
use Rattle.upload.specs.Turns.{timer_turned}
use Rattle.upload.specs.Effects.{turned_state, applied}
use Rattle.upload.specs.declared.Effect.{Effect}
use Rattle.upload.specs.declared.Effect.TheVariants.{Nothing, Turns, Renews, Changes, EmptiesAll, Chooses}
use Rattle.answers.specs.declared.Handled.{Handled}
use Rattle.answers.specs.Answered.{Handles}
use Rattle.protocol.specs.Handlers.{DoneBy}
use Rattle.record_steps.specs.Doing.{Done, timer_done}
use Rattle.next_command.specs.declared.find.Found.{Found}
use Rattle.next_command.specs.declared.find.Stand.{Stand}
use Rattle.next_command.specs.Finding.{found_of}
use Rattle.next_command.specs.OrderedBy.{OrderedBy, reached_state, reaches}
use Rattle.refine.specs.After.{gives, after}
use Rattle.refine.specs.Steps.{Steps, timer_steps, done_steps}
use Rattle.refine.specs.Turned.{timer_agrees}
use Rattle.refine.specs.Serving.{steps_serve}
use Rattle.own_calls.specs.declared.Served.{Served}
use Rattle.own_calls.specs.Calls.{Serves, served_result, advance_result, refused_serves}

-- the result of a message or a timer call: this state, and what was said
abbrev pub served : State → Handled → Served
served st h = record { state = st; answer = Ok h.reply }

-- a handler's effect, put into the state, serves the call
pub applied_serves :
    (c : Call) (st : State) (s s' : Store) (b b' : Bytes) (k : ℕ) (d : Done) (h : Handled) → Steps words words_lawful c st s (after st k d) → command_in d.answer ≡ rules.stuck
    → DoneBy d s' b b' h → (e : Effect) → h.effect ≡ e → Serves c st s s' b b' (served_result (served (applied st k e) h))
applied_serves c st s s' b b' k d h steps stuck by e is =
    let spoken = by.handles.spoken in
    steps_serve words words_lawful c st s s' b b' (after st k d) (served_result (served (applied st k e) h)) steps
    (record {
      state = ap (applied st k) (sym is ∙ by.handles.effect);
      store = by.store;
      outcome = spoken.outcome;
      id = spoken.id;
      len = spoken.len;
      command = sym stuck;
      buffer = spoken.buffer;
      reads = spoken.reads;
    })

-- ---- timer

-- a timer call that is not refused
pub record TimerTaken (st : State) (s : Store) (b : Bytes) (kind clock : ℕ) : Type 0 where
  pub ranges : in_range (view st s) ≡ true
  pub three : length st.plans ≡ length kinds
  pub known : kind ≤ rally
  pub room : reply_bytes_min ≤ length b
  pub says : heard (in_range (view st s)) (timer kind clock (length s) (length b)) ≡ expiry clock kind

module _ (st : State) (s : Store) (b : Bytes) (kind clock : ℕ) (ranged : Bool) {T : Type 0} (verdict : Result T Refusal)
    (test : ranged ≡ all_ranged (plan_of st flight) (plan_of st fence) (plan_of st rally) st.current st.counts)
    (refusal : (now : ℕ) → outcome_code verdict ≡ refusal_of (heard ranged (timer kind now (length s) (length b)))) where
  abbrev ticked : Call
  ticked = timer kind clock (length s) (length b)

  pub timer_refused : (r : Refusal) → verdict ≡ Err r → Serves ticked st s s b b (served_result (record { state = st; answer = Err r }))
  timer_refused r is =
      refused_serves ticked st s b ranged (refusal_code r) (in_range_lem words st s ranged test) (ap outcome_code (sym is) ∙ refusal clock) (refused r)

  pub timer_taken : (v : T) → verdict ≡ Ok v → length st.plans ≡ length kinds → TimerTaken st s b kind clock
  timer_taken v is three =
      let said : HeardTimer ranged kind clock (length s) (length b) = timer_heard ranged kind clock (length s) (length b) (sym (refusal clock) ∙ ap outcome_code is) in
      record {
        ranges = sym (in_range_lem words st s ranged test) ∙ said.there.in_range;
        three = three;
        known = said.known;
        room = said.there.room;
        says = ap (λ (t : Bool). heard t ticked) (sym (in_range_lem words st s ranged test)) ∙ said.says;
      }

-- the place of the kind that is given back
pub place_lem : (verdict : Result Kind Refusal) (kind : ℕ) → IfOk verdict (λ (known : Kind). kind_number known ≡ kind) → (known : Kind) → verdict ≡ Ok known → (k : ℕ) → k ≡ kind_number known → k ≡ kind
place_lem verdict kind given known is k stands = stands ∙ (rw is at given)

-- a timer call puts a plan in, or does nothing
abbrev TurnsAtMost : Effect → Type 0
TurnsAtMost Nothing = Unit
TurnsAtMost (Turns p) = Unit
TurnsAtMost (Renews p) = ⊥
TurnsAtMost (Changes p) = ⊥
TurnsAtMost EmptiesAll = ⊥
TurnsAtMost (Chooses seq) = ⊥

turns_at_most : (p : Plan) (now : ℕ) (u : Option Run) → TurnsAtMost (timer_turned u p now).effect
unfolding timer_turned
turns_at_most p now None = tt
turns_at_most p now (Some r) =
    either Of (ltb (elapsed now r.started) expiry_ms) (λ t. tt) (λ t. either Of (ltb r.repeats max_repeats) (λ t. tt) (λ t. tt))
  where
    Of : Turned → Type 0
    Of t = TurnsAtMost t.effect

-- where it puts none in it is nothing
no_turn : (e : Effect) → TurnsAtMost e → ((p : Plan) → e ≡ Turns p → ⊥) → e ≡ Nothing
no_turn Nothing least other = refl
no_turn (Turns p) least other = absurd (other p refl)
no_turn (Renews p) least other = absurd least
no_turn (Changes p) least other = absurd least
no_turn EmptiesAll least other = absurd least
no_turn (Chooses seq) least other = absurd least

-- what the handler did
module _ (st : State) (s : Store) (b : Bytes) (kind clock : ℕ) (taken : TimerTaken st s b kind clock) (b' : Bytes) (h : Handled)
    (k : ℕ) (place : k ≡ kind)
    (by : (l : Bytes) → Handles (timer_done (plan_of st k) l clock kind).effect (timer_done (plan_of st k) l clock kind).answer b b' h) where
  timer_serves : (e : Effect) → h.effect ≡ e → Serves (timer kind clock (length s) (length b)) st s s b b' (served_result (served (applied st kind e) h))
  unfolding timer_done
  timer_serves e is =
      let c = timer kind clock (length s) (length b) in
      let known = le-leb kind rally taken.known in
      let agree = timer_agrees words st s taken.three kind known clock in
      let u = model.upload_of (view st s) kind in
      applied_serves c st s s b b' kind (timer_done (plan_of st kind) s clock kind) h
      (timer_steps words words_lawful c st s taken.three taken.ranges clock kind known taken.says)
      (ap command_in agree.answer ∙ plain_stuck (on_timer u (view st s) clock kind).answer (timer_plain (view st s) u clock kind))
      (record { handles = rw place at (by s); store = refl }) e is

  pub timer_turns : (plan : Plan) → h.effect ≡ Turns plan → Serves (timer kind clock (length s) (length b)) st s s b b' (served_result (served (turned_state st k plan) h))
  timer_turns plan is = rw place (timer_serves (Turns plan) is)

  pub timer_nothing : ((q : Plan) → h.effect ≡ Turns q → ⊥) → Serves (timer kind clock (length s) (length b)) st s s b b' (served_result (served st h))
  unfolding timer_done
  timer_nothing other =
      let p = plan_of st k in
      let least = subst TurnsAtMost (sym (by s).effect) (turns_at_most p clock p.upload) in
      timer_serves Nothing (no_turn h.effect least other)

-- ---- "command done"

-- a "command done" call that is not refused
pub record DoneTaken (st : State) (s : Store) : Type 0 where
  pub ranges : in_range (view st s) ≡ true
  pub three : length st.plans ≡ length kinds
  pub long : store_words ≤ length s
  pub len : (plan_of st flight).len ≤ size_of flight
  pub current : st.current < size_of flight
  pub says : heard (in_range (view st s)) (done (length s)) ≡ command_done

module _ (st : State) (s : Store) (ranged : Bool) {T : Type 0} (verdict : Result T Refusal)
    (test : ranged ≡ all_ranged (plan_of st flight) (plan_of st fence) (plan_of st rally) st.current st.counts)
    (refusal : outcome_code verdict ≡ refusal_of (heard ranged (done (length s)))) where
  pub done_refused : (r : Refusal) → verdict ≡ Err r → Serves (done (length s)) st s s [] [] (advance_result (record { state = st; answer = Err r }))
  done_refused r is =
      refused_serves (done (length s)) st s [] ranged (refusal_code r) (in_range_lem words st s ranged test) (ap outcome_code (sym is) ∙ refusal) (refused r)

  pub done_taken : (v : T) → verdict ≡ Ok v → length st.plans ≡ length kinds → DoneTaken st s
  done_taken v is three =
      let said : HeardDone ranged (length s) = done_heard ranged (length s) (sym refusal ∙ ap outcome_code is) in
      let all : all_ranged (plan_of st flight) (plan_of st fence) (plan_of st rally) st.current st.counts ≡ true = sym test ∙ said.in_range in
      record {
        ranges = sym (in_range_lem words st s ranged test) ∙ said.in_range;
        three = three;
        long = said.long;
        len = flight_length (plan_of st flight) (plan_of st fence) (plan_of st rally) st.current st.counts all;
        current = current_below (plan_of st flight) (plan_of st fence) (plan_of st rally) st.current st.counts all;
        says = ap (λ (t : Bool). heard t (done (length s))) (sym (in_range_lem words st s ranged test)) ∙ said.says;
      }

-- what is found in the flight plan, and the state that it makes
module _ (st : State) (s : Store) (taken : DoneTaken st s) (f : Found)
    (finds :
    found_of f
    ≡ rules.search st.home max_followed (items_in words s (plan_of st flight).half flight (plan_of st flight).len) st.counts
    (flown st.home (cond st.begun (st.current + 1) st.current))) where
  ordered : OrderedBy st s (reached_state st f.stand) f.command
  unfolding rules.next view_in
  ordered = reaches st s f finds

  done_serves : (stand : Option Stand) → f.stand ≡ stand
      → Serves (done (length s)) st s s [] [] (advance_result (record { state = reached_state st stand; answer = Ok f.command }))
  done_serves stand is =
      let st' = reached_state st stand in
      let r = advance_result (record { state = st'; answer = Ok f.command }) in
      let by : OrderedBy st s st' f.command = subst (λ (t : Option Stand). OrderedBy st s (reached_state st t) f.command) is ordered in
      steps_serve words words_lawful (done (length s)) st s s [] [] (gives st' s (orders (rules.answer_of (rules.next (view st s).shown)))) r
      (done_steps words words_lawful (done (length s)) st s taken.three taken.ranges st' by.shown by.plans taken.says)
      (record { state = refl; store = refl; outcome = refl; id = refl; len = refl; command = by.answer; buffer = refl; reads = tt })

  pub done_stands : (stand : Stand) → f.stand ≡ Some stand
      → Serves (done (length s)) st s s [] []
      (advance_result (record { state = record { plans = st.plans; current = stand.n; begun = true; home = st.home; counts = stand.counts }; answer = Ok f.command }))
  done_stands stand is = done_serves (Some stand) is

  pub done_stays : f.stand ≡ None → Serves (done (length s)) st s s [] [] (advance_result (record { state = st; answer = Ok f.command }))
  done_stays is = done_serves None is
