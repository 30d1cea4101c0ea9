-- Each turn of one kind commutes with the view: COUNT, MISSION_WRITE_PARTIAL_LIST, ACK and the timer.
use Rattle.std.specs.Prelude.{ℕ, ◌≡◌, List, [], ◌∷◌, Bool, true, ◌&&◌, length, eqb, ltb, Option, Some, None, Ok, Err}
use Rattle.std.proofs.Math.Path.{refl, ap}
use Rattle.std.proofs.Common.{sym, ◌∙◌, drop_of_length-le, le_of_eq}
use Rattle.std.proofs.Math.Bool.{false, not}
use Rattle.std.proofs.Math.ListN.{set}
use Rattle.rules.specs.Limits.{kinds, size_of, max_repeats, expiry_ms, accepted, no_space, invalid_sequence, denied, cancelled}
use Rattle.rules.specs.Payload.{Bytes}
use Rattle.rules.specs.Messages.{Station}
use Rattle.rules.specs.Model as model
use Rattle.rules.specs.Model.{Task, whole_task, part_task, idle, running, elapsed, is_others, is_own, with_plan}
use Rattle.rules.specs.Calls.{is_known}
use Rattle.rules.specs.Step.{Stepped, Answer, silent, acks, requests, opens, on_count, part_ok, on_partial, on_ack, on_timer}
use Rattle.rule_laws.specs.Tests.{either₂}
use Rattle.plan.specs.declared.State.{State}
use Rattle.plan.specs.declared.Run.{Run}
use Rattle.places.specs.Forms.{Store, Form, items_in, length_items}
use Rattle.limits.specs.declared.Fault.TheVariants.{NoSpace, InvalidSequence, Denied, Cancelled}
use Rattle.plan.specs.View.{plan_of, run_in, upload_in, view_in}
use Rattle.upload.specs.declared.Say.{Say}
use Rattle.upload.specs.declared.Say.TheVariants.{Silent, Ack, Ask}
use Rattle.upload.specs.declared.Turned.{Turned}
use Rattle.upload.specs.Turns as turns
use Rattle.upload.specs.Turns.{station_of, with_upload, ended, emptied, started, asked_again, others_upload, own_upload, keeps, moves, renews, count_turned, part_turned, ack_turned, timer_turned}
use Rattle.record_steps.specs.Answers.{answer_of}
use Rattle.record_steps.specs.Doing.{timer_done}
use Rattle.refine.specs.After.{After, after_turn, after_timer}
use Rattle.refine.specs.Views.{plan_shown, upload_shown, length_shown, view_upload, view_renewed}

module _ (F : Form) where
  -- the code's step shows the rules' model, and gives the rules' answer
  pub record Agree (d : After) (m : Stepped) : Type 0 where
    pub model : view_in F d.state d.store ≡ m.model
    pub answer : d.answer ≡ m.answer

  -- whose an upload is, as shown
  pub others_shown : (from : Station) (s : Store) (half : Bool) (k : ℕ) (u : Option Run) → is_others from (upload_in F s half k u) ≡ others_upload from u
  unfolding is_others others_upload upload_in
  others_shown from s half k None = refl
  others_shown from s half k (Some r) = refl

  own_shown : (from : Station) (s : Store) (half : Bool) (k : ℕ) (u : Option Run) → is_own from (upload_in F s half k u) ≡ own_upload from u
  unfolding is_own own_upload upload_in
  own_shown from s half k None = refl
  own_shown from s half k (Some r) = refl

  module _ (st : State) (s : Store) (three : length st.plans ≡ length kinds) (k : ℕ) (known : is_known k ≡ true) (to : Station) where
    abbrev pub Agrees : Turned → Stepped → Type 0
    Agrees t m = Agree (after_turn st s k to t) m

    -- nothing changes
    pub kept : (say : Say) (a : Answer) → answer_of say to k ≡ a → Agrees (keeps say) (record { model = view_in F st s; answer = a })
    kept say a e = record { model = refl; answer = e }

    -- the upload ends
    pub ends : (say : Say) (a : Answer) → answer_of say to k ≡ a → Agrees (moves (ended (plan_of st k)) say) (record { model = record { shown = (view_in F st s).shown; uploads = set (view_in F st s).uploads k idle }; answer = a })
    unfolding upload_in
    ends say a e = record { model = view_upload F st s three k None known; answer = e }

    -- an upload runs on
    pub runs :
        (r : Run) (say : Say) (a : Answer) → answer_of say to k ≡ a
        → Agrees (moves (with_upload (plan_of st k) (Some r)) say)
        (record { model = record { shown = (view_in F st s).shown; uploads = set (view_in F st s).uploads k (running (run_in F s (not (plan_of st k).half) k r)) }; answer = a })
    unfolding upload_in
    runs r say a e = record { model = view_upload F st s three k (Some r) known; answer = e }

    -- the plan becomes empty
    pub empties :
        (say : Say) (a : Answer) → answer_of say to k ≡ a
        → Agrees (renews (emptied (plan_of st k)) say)
        (record { model = record { shown = model.empty (k ∷ []) (view_in F st s).shown; uploads = set (view_in F st s).uploads k idle }; answer = a })
    unfolding upload_in items_in model.empty model.emptied
    empties say a e =
        record {
          model =
              view_renewed F st s three false k (emptied (plan_of st k)) known
              ∙ ap
              (λ (n : ℕ). record { shown = with_plan false k (record { items = []; number = n }) (view_in F st s).shown; uploads = set (view_in F st s).uploads k idle })
              (sym (ap (λ (q : model.Plan). q.number) (plan_shown F st s k known)));
          answer = e;
        }

    -- an upload starts: no item is taken yet
    opened : (now : ℕ) (t : Task) → Agrees (turns.opens (plan_of st k) to now t) (opens (view_in F st s) to now k t)
    opened now t =
        let after = runs (started to now t) (Ask t.first) (requests to t.first k) refl in
        record {
          model =
              after.model
              ∙ ap (λ (l : List Bytes). record { shown = (view_in F st s).shown; uploads = set (view_in F st s).uploads k (running (record { station = to; task = t; next = t.first; taken = l; started = now; repeats = 0 })) })
              (drop_of_length-le (items_in F s (not (plan_of st k).half) k t.first) (le_of_eq (length_items F s (not (plan_of st k).half) k t.first)));
          answer = after.answer;
        }

    -- COUNT, from the station that is answered
    pub count_agrees : (now n : ℕ) → Agrees (count_turned (plan_of st k) to now n (size_of k)) (on_count (view_in F st s) to now k n)
    unfolding count_turned on_count
    count_agrees now n =
        rw (upload_shown F st s k known, others_shown to s (not (plan_of st k).half) k (plan_of st k).upload)
        (either₂ Agrees (others_upload to (plan_of st k).upload) (λ t. kept (Ack (Err Denied)) (acks to denied k) refl)
        (λ t. either₂ Agrees (ltb (size_of k) n) (λ t. ends (Ack (Err NoSpace)) (acks to no_space k) refl)
        (λ t. either₂ Agrees (eqb n 0) (λ t. empties (Ack (Ok 0)) (acks to accepted k) refl)
        (λ t. opened now (whole_task n)))))

    -- MISSION_WRITE_PARTIAL_LIST
    pub part_agrees : (now start end : ℕ) → Agrees (part_turned (plan_of st k) to now start end) (on_partial (view_in F st s) to now k start end)
    unfolding part_turned on_partial
    part_agrees now start end =
        rw (upload_shown F st s k known, others_shown to s (not (plan_of st k).half) k (plan_of st k).upload, length_shown F st s k known)
        (either₂ Agrees (others_upload to (plan_of st k).upload) (λ t. kept (Ack (Err Denied)) (acks to denied k) refl)
        (λ t. either₂ Agrees (not (part_ok (plan_of st k).len start end)) (λ t. ends (Ack (Err InvalidSequence)) (acks to invalid_sequence k) refl)
        (λ t. opened now (part_task (plan_of st k).len start end))))

    -- ACK
    pub ack_agrees : (result : ℕ) → Agrees (ack_turned (plan_of st k) to result) (on_ack (view_in F st s) to k result)
    unfolding ack_turned on_ack
    ack_agrees result =
        rw (upload_shown F st s k known, own_shown to s (not (plan_of st k).half) k (plan_of st k).upload)
        (either₂ Agrees (own_upload to (plan_of st k).upload && not (eqb result accepted)) (λ t. ends Silent silent refl) (λ t. kept Silent silent refl))

  -- the timer: the reply goes to the upload's station
  timer_by :
      (st : State) (s : Store) → length st.plans ≡ length kinds → (k : ℕ) → is_known k ≡ true → (now : ℕ) (u : Option Run)
      → Agree (after_turn st s k (station_of u) (timer_turned u (plan_of st k) now)) (on_timer (upload_in F s (not (plan_of st k).half) k u) (view_in F st s) now k)
  unfolding timer_turned on_timer upload_in
  timer_by st s three k known now None = kept st s three k known (station_of None) Silent silent refl
  timer_by st s three k known now (Some r) =
      let to = station_of (Some r) in
      either₂ (Agrees st s three k known to) (ltb (elapsed now r.started) expiry_ms) (λ t. kept st s three k known to Silent silent refl)
      (λ t. either₂ (Agrees st s three k known to) (ltb r.repeats max_repeats)
      (λ t. runs st s three k known to (asked_again r now) (Ask r.next) (requests to r.next k) refl)
      (λ t. ends st s three k known to (Ack (Err Cancelled)) (acks to cancelled k) refl))

  pub timer_agrees :
      (st : State) (s : Store) → length st.plans ≡ length kinds → (k : ℕ) → is_known k ≡ true → (now : ℕ)
      → Agree (after_timer st s now k) (on_timer (model.upload_of (view_in F st s) k) (view_in F st s) now k)
  unfolding timer_done
  timer_agrees st s three k known now = rw (upload_shown F st s k known) (timer_by st s three k known now (plan_of st k).upload)
