-- From the code's step to the promise; and that every call that fits has a result that keeps it.
use Rattle.std.specs.Prelude.{ℕ, ◌≤◌, ◌≡◌, true, get_or, take, drop}
use Rattle.std.proofs.Math.Path.{refl}
use Rattle.std.proofs.Common.{sym, ap, ap₂, subst, ◌∙◌, take_at}
use mathlib.Core.List.{List, [], ◌∷◌, ◌++◌}
use Rattle.std.proofs.Math.Bool.{false}
use Rattle.std.proofs.Math.ListN.{length, length-set}
use borrow.Author.Tests.{le-ltb, ltb-false}
use Rattle.rules.specs.Limits.{kinds, store_words}
use Rattle.rules.specs.Payload.{Bytes}
use Rattle.rules.specs.Model.{in_range}
use Rattle.rules.specs.NextCommand.{Found, nowhere, found, next, reach, advance, answer_of}
use Rattle.rules.specs.Calls.{Call, store_lent, Heard, refuses, request, expiry, command_done, heard}
use Rattle.rules.specs.Step.{Answer, refused, orders, outcome_of, reply_id, reply_bytes, command_in, ReadsBack}
use Rattle.rule_laws.specs.Fitting.{ModelFits, CallFits}
use Rattle.rule_laws.specs.ReadBack.{replies_read}
use Rattle.rule_laws.specs.Heard.{HeardFits, heard_fits}
use Rattle.rule_laws.specs.Refused.{Room, none, enough, room_or_refused}
use Rattle.places.specs.Forms.{Store, Form, least}
use Rattle.places.specs.Places.{Lawful}
use Rattle.plan.specs.declared.State.{State}
use Rattle.plan.specs.View.{plan_of, view_in}
use Rattle.upload.specs.declared.Effect.{Effect}
use Rattle.upload.specs.declared.Effect.TheVariants.{Nothing, Turns, Renews, Changes, EmptiesAll, Chooses}
use Rattle.upload.specs.Turns.{emptied}
use Rattle.upload.specs.Effects.{renewed_state, emptied_state, applied}
use Rattle.record_steps.specs.Doing.{message_done, timer_done}
use Rattle.refine.specs.After.{After, gives, after_message, after_timer}
use Rattle.refine.specs.Promise.{Result, Serves, half_of, LentIn, spare}
use Rattle.refine.specs.Steps.{Steps, refused_steps, message_steps, timer_steps, done_steps}

module _ (F : Form) (lawful : Lawful F) where
  -- a result that gives the step's state and answer
  pub record Gives (d : After) (s' : Store) (b b' : Bytes) (r : Result State) : Type 0 where
    pub state : r.state ≡ d.state
    pub store : s' ≡ d.store
    pub outcome : r.outcome ≡ outcome_of d.answer
    pub id : r.id ≡ reply_id d.answer
    pub len : r.len ≡ length (reply_bytes d.answer)
    pub command : r.command ≡ command_in d.answer
    pub buffer : b' ≡ reply_bytes d.answer ++ drop (length (reply_bytes d.answer)) b
    pub reads : ReadsBack d.answer r.id (take r.len b')

  pub steps_serve :
      (c : Call) (st : State) (s s' : Store) (b b' : Bytes) (d : After) (r : Result State) → Steps F lawful c st s d → Gives d s' b b' r
      → Serves State (view_in F) half_of (spare F) c st s s' b b' r
  steps_serve c st s s' b b' d r steps gives-it =
      let said = steps.answer in
      record {
        outcome = gives-it.outcome ∙ ap outcome_of said;
        id = gives-it.id ∙ ap reply_id said;
        len = gives-it.len ∙ ap (λ (a : Answer). length (reply_bytes a)) said;
        command = gives-it.command ∙ ap command_in said;
        buffer = gives-it.buffer ∙ ap (λ (a : Answer). reply_bytes a ++ drop (length (reply_bytes a)) b) said;
        reads = subst (λ (a : Answer). ReadsBack a r.id (take r.len b')) said gives-it.reads;
        model = ap₂ (view_in F) gives-it.state gives-it.store ∙ steps.model;
        halves = λ k known. ap (λ (x : State). half_of x k) gives-it.state ∙ steps.halves k known;
        unchanged = λ e. (gives-it.state ∙ (steps.unchanged e).0, gives-it.store ∙ (steps.unchanged e).1);
        beside = λ i e. ap (λ (l : Bytes). get_or l i 0) gives-it.store ∙ steps.beside i e;
        long = ap length gives-it.store ∙ steps.long;
      }

  -- ---- every call has a result

  -- the state after "command done"
  reached : Found → State → State
  reached (nowhere c) st = st
  reached (found n counts c) st = record { plans = st.plans; current = n; begun = true; home = st.home; counts = counts }

  -- the code's step by what is heard
  done_by : State → Store → Heard → After
  done_by st s (refuses outcome) = gives st s (refused outcome)
  done_by st s (request from now k r) = after_message F st s from now k r
  done_by st s (expiry now k) = after_timer st s now k
  done_by st s command_done = gives (reached (next (view_in F st s).shown) st) s (orders (answer_of (next (view_in F st s).shown)))

  abbrev Three : State → Type 0
  Three st = length st.plans ≡ length kinds

  -- the plans after an effect are three
  emptied_three : (st : State) (ks : List ℕ) → Three st → Three (emptied_state st ks)
  unfolding renewed_state
  emptied_three st [] three = three
  emptied_three st (k ∷ ks) three =
      let p = emptied (plan_of st k) in
      emptied_three (renewed_state false st k p) ks (length-set st.plans k p ∙ three)

  applied_three : (st : State) (k : ℕ) (e : Effect) → Three st → Three (applied st k e)
  unfolding renewed_state
  applied_three st k Nothing three = three
  applied_three st k (Turns p) three = length-set st.plans k p ∙ three
  applied_three st k (Changes p) three = length-set st.plans k p ∙ three
  applied_three st k (Renews p) three = length-set st.plans k p ∙ three
  applied_three st k EmptiesAll three = emptied_three st kinds three
  applied_three st k (Chooses seq) three = three

  reached_three : (st : State) → Three st → (f : Found) → Three (reached f st)
  unfolding reached
  reached_three st three (nowhere c) = three
  reached_three st three (found n counts c) = three

  done_three : (st : State) (s : Store) (h : Heard) → Three st → Three (done_by st s h).state
  unfolding done_by
  done_three st s (refuses outcome) three = three
  done_three st s (request from now k r) three = applied_three st k (message_done F st.home st.plans st.current s from now k r).effect three
  done_three st s (expiry now k) three = applied_three st k (timer_done (plan_of st k) s now k).effect three
  done_three st s command_done three = reached_three st three (next (view_in F st s).shown)

  reached_view : (st : State) (s : Store) (f : Found) → view_in F (reached f st) s ≡ record { shown = reach f (view_in F st s).shown; uploads = (view_in F st s).uploads }
  unfolding reached reach view_in
  reached_view st s (nowhere c) = refl
  reached_view st s (found n counts c) = refl

  reached_plans : (st : State) (f : Found) → (reached f st).plans ≡ st.plans
  unfolding reached
  reached_plans st (nowhere c) = refl
  reached_plans st (found n counts c) = refl

  -- the code's step keeps the promise, whatever is heard
  done_by_steps :
      (c : Call) (st : State) (s : Store) → Three st → in_range (view_in F st s) ≡ true → least F ≤ length s → CallFits c → (h : Heard)
      → heard (in_range (view_in F st s)) c ≡ h → Steps F lawful c st s (done_by st s h)
  unfolding done_by advance
  done_by_steps c st s three ranged long call (refuses outcome) e = refused_steps F lawful c st s outcome e
  done_by_steps c st s three ranged long call (request from now k r) e = message_steps F lawful c st s three ranged long from now k r e
  done_by_steps c st s three ranged long call (expiry now k) e =
      timer_steps F lawful c st s three ranged now k (subst HeardFits e (heard_fits (in_range (view_in F st s)) c call)).0 e
  done_by_steps c st s three ranged long call command_done e =
      let f = next (view_in F st s).shown in
      done_steps F lawful c st s three ranged (reached f st) (reached_view st s f) (reached_plans st f) e

  -- a result of a call, with the store and the buffer after it
  pub record Kept (c : Call) (st : State) (s : Store) (b : Bytes) : Type 0 where
    pub result : Result State
    pub store : Store
    pub buffer : Bytes
    pub serves : Serves State (view_in F) half_of (spare F) c st s store b buffer result
    pub three : Three result.state

  -- what a step gives is a result; a refusal has no reply, and what is said reads back where the model and the call fit
  given :
      (c : Call) (st : State) (s : Store) (b : Bytes) (d : After) → Three d.state → Steps F lawful c st s d → ReadsBack d.answer (reply_id d.answer) (reply_bytes d.answer)
      → Kept c st s b
  given c st s b d three steps reads =
      let bytes = reply_bytes d.answer in
      let after = bytes ++ drop (length bytes) b in
      let r : Result State = record { state = d.state; outcome = outcome_of d.answer; id = reply_id d.answer; len = length bytes; command = command_in d.answer } in
      record {
        result = r;
        store = d.store;
        buffer = after;
        serves =
            steps_serve c st s d.store b after d r steps
            (record {
              state = refl;
              store = refl;
              outcome = refl;
              id = refl;
              len = refl;
              command = refl;
              buffer = refl;
              reads = subst (λ (p : Bytes). ReadsBack d.answer (reply_id d.answer) p) (sym (take_at bytes (drop (length bytes) b) (length bytes) refl)) reads;
            });
        three = three;
      }

  -- Every call that fits, lent a store that shows a model that fits, has a result that keeps the promise.
  pub result_exists :
      (c : Call) (st : State) (s : Store) (b : Bytes) → Three st → LentIn F c (length s) → CallFits c
      → (in_range (view_in F st s) ≡ true → least F ≤ length s → ModelFits (view_in F st s)) → Kept c st s b
  unfolding done_by
  result_exists c st s b three lent call fits = go (room_or_refused (in_range (view_in F st s)) c)
    where
      go : Room (in_range (view_in F st s)) c → Kept c st s b
      go (none outcome e) = given c st s b (gives st s (refused outcome)) three (refused_steps F lawful c st s outcome e) tt
      go (enough ranged long) =
          let h = heard (in_range (view_in F st s)) c in
          let room : least F ≤ length s = ltb-false (length s) (least F) (lent ∙ le-ltb (store_lent c) store_words long) in
          let d = done_by st s h in
          let steps = done_by_steps c st s three ranged room call h refl in
          given c st s b d (done_three st s h three) steps
          (subst (λ (a : Answer). ReadsBack a (reply_id a) (reply_bytes a)) (sym steps.answer) (replies_read (view_in F st s) c (fits ranged room) call))
