-- What the ways of a message call need and give, over plain variables: a refused call's promise; and of any other the facts that its handler asks for, and the promise by
-- the handler's effect.
use Prim.Native.Nat.{ℕ, ◌≤◌}
use mathlib.Core.Path.{◌≡◌, refl, sym, ap, ap₂, subst, ◌∙◌}
use mathlib.Core.Bool.{Bool, true}
use lib.ListN.{length}
use borrow.Author.Tests.{leb-true}
use Rattle.rules.specs.Limits.{flight, fence, rally, kinds, store_words, reply_bytes_min}
use Rattle.std.specs.Prelude.{Option, Some, Result, Ok, Err, IfOk}
use Rattle.rules.specs.Payload.{Bytes}
use Rattle.rules.specs.Messages.{Station, Message, decode}
use Rattle.rules.specs.Model.{in_range}
use Rattle.rules.specs.Calls.{Call, message, Request, request, heard}
use Rattle.rules.specs.Step.{command_in, on_message}
use Rattle.rule_laws.specs.Refused.{plain_stuck, message_plain}
use Rattle.limits.specs.declared.Refusal.{Refusal}
use Rattle.limits.specs.Codes.{refusal_code, outcome_code, refused}
use Rattle.message_table.specs.declared.Head.{Head}
use Rattle.message_table.specs.declared.Received.{Received}
use Rattle.message_table.specs.Table.{is_read, head_of, ReadAs}
use Rattle.plan.specs.declared.State.{State}
use Rattle.plan.specs.declared.Plan.{Plan}
use Rattle.rule_laws.specs.Brought.{request_kind}
use Rattle.places.specs.Forms.{Store, words}
use Rattle.places.proofs.Lawful.{words_lawful}
use Rattle.plan.specs.View.{plan_of, view}
use Rattle.ranges.specs.Ranges.{plans_ranged, all_ranged, in_range_lem}
use Rattle.ranges.specs.Ranged.{plans_ranged_lem}
use Rattle.refusal.specs.Refusals.{refusal_of, request_of, HeadRead, HeardMessage, message_heard}
use Rattle.upload.specs.Effects.{applied}
use Rattle.upload.specs.declared.Effect.{Effect}
use Rattle.upload.specs.declared.Effect.TheVariants.{Turns, Renews, Changes}
use Rattle.answers.specs.declared.Handled.{Handled}
use Rattle.protocol.specs.Handlers.{DoneBy}
use Rattle.record_steps.specs.Doing.{message_done}
use Rattle.refine.specs.Steps.{EffectOk, message_effect, message_steps}
use Rattle.refine.specs.Messages.{message_agrees}
use Rattle.own_calls.specs.Calls.{Serves, served_result, refused_serves}
use Rattle.own_calls.proofs.Ways.{served, applied_serves}

-- ---- message

-- a message call that is not refused: what its handler may rely on, and what is heard is what was received
pub record MessageTaken (st : State) (s : Store) (b : Bytes) (own from : Station) (id : ℕ) (p : Bytes) (clock : ℕ) (got : Received) : Type 0 where
  pub ranges : in_range (view st s) ≡ true
  pub plans : plans_ranged (plan_of st flight) (plan_of st fence) (plan_of st rally) ≡ true
  pub three : length st.plans ≡ length kinds
  pub long : store_words ≤ length s
  pub room : reply_bytes_min ≤ length b
  pub read : is_read (decode id got.own) ≡ true
  pub says : heard (in_range (view st s)) (message own from id p clock (length s) (length b)) ≡ request from clock got.head.kind (request_of (decode id got.own))

module _ (st : State) (s : Store) (b : Bytes) (own from : Station) (id : ℕ) (p : Bytes) (clock : ℕ) (ranged : Bool) (received : Option Received) (verdict : Result Received Refusal)
    (test : ranged ≡ all_ranged (plan_of st flight) (plan_of st fence) (plan_of st rally) st.current st.counts) (read : ReadAs id p received)
    (refusal :
    (f : Station) (i : ℕ) (q : Bytes) (now : ℕ) → length q ≡ length p → HeadRead i q received
    → outcome_code verdict ≡ refusal_of (heard ranged (message own f i q now (length s) (length b)))) where
  abbrev sent : Call
  sent = message own from id p clock (length s) (length b)

  message_outcome : outcome_code verdict ≡ refusal_of (heard ranged sent)
  message_outcome = refusal from id p clock refl (record { is_read = read.read; heads = read.heads })

  pub message_refused : (r : Refusal) → verdict ≡ Err r → Serves sent st s s b b (served_result (record { state = st; answer = Err r }))
  message_refused r is =
      refused_serves sent st s b ranged (refusal_code r) (in_range_lem words st s ranged test) (ap outcome_code (sym is) ∙ message_outcome) (refused r)

  pub message_taken : (got : Received) → verdict ≡ Ok got → IfOk verdict (λ (x : Received). received ≡ Some x) → length st.plans ≡ length kinds → MessageTaken st s b own from id p clock got
  message_taken got is given three =
      let said : HeardMessage ranged own from id p clock (length s) (length b) = message_heard ranged own from id p clock (length s) (length b) (sym message_outcome ∙ ap outcome_code is) in
      let there : received ≡ Some got = rw is at given in
      let own_bytes : decode id got.own ≡ decode id p = rw there at read.decodes in
      let head : got.head ≡ head_of (decode id p) = rw there at read.heads in
      record {
        ranges = sym (in_range_lem words st s ranged test) ∙ said.there.in_range;
        plans = plans_ranged_lem (plan_of st flight) (plan_of st fence) (plan_of st rally) st.current st.counts (sym test ∙ said.there.in_range);
        three = three;
        long = said.there.long;
        room = said.there.room;
        read = ap is_read own_bytes ∙ said.read;
        says =
            ap (λ (t : Bool). heard t sent) (sym (in_range_lem words st s ranged test)) ∙ said.says
            ∙ sym (ap₂ (λ (k : ℕ) (m : Message). request from clock k (request_of m)) (ap (λ (h : Head). h.kind) head) own_bytes);
      }

-- what the handler did
module _ (st : State) (s : Store) (b : Bytes) (own from : Station) (id : ℕ) (p : Bytes) (clock : ℕ) (got : Received) (taken : MessageTaken st s b own from id p clock got)
    (s' : Store) (b' : Bytes) (h : Handled)
    (by :
    DoneBy (message_done words st.home st.plans st.current s from clock got.head.kind (request_of (decode id got.own)))
    s' b b' h) where
  abbrev c : Call
  c = message own from id p clock (length s) (length b)

  abbrev k : ℕ
  k = got.head.kind

  abbrev q : Request
  q = request_of (decode id got.own)

  pub message_serves : (st' : State) → st' ≡ applied st k h.effect → Serves c st s s' b b' (served_result (served st' h))
  message_serves st' is =
      let agree = message_agrees words words_lawful st s taken.three taken.long taken.ranges from clock k q (request_kind (in_range (view st s)) c taken.says) in
      rw is (applied_serves c st s s' b b' k (message_done words st.home st.plans st.current s from clock k q) h
      (message_steps words words_lawful c st s taken.three taken.ranges taken.long from clock k q taken.says)
      (ap command_in agree.answer ∙ plain_stuck (on_message (view st s) from clock k q).answer (message_plain (view st s) from clock k q))
      by h.effect refl)

  -- a plan that is put in is of a known kind
  effect_ok : (e : Effect) → h.effect ≡ e → EffectOk words words_lawful k (plan_of st k) e
  effect_ok e is = subst (EffectOk words words_lawful k (plan_of st k)) (sym by.handles.effect ∙ is) (message_effect words words_lawful st s taken.three taken.long taken.ranges from clock k q)

  pub known_turned : (p : Plan) → h.effect ≡ Turns p → k ≤ rally
  known_turned p is = leb-true k rally (effect_ok (Turns p) is).0

  pub known_renewed : (p : Plan) → h.effect ≡ Renews p → k ≤ rally
  known_renewed p is = leb-true k rally (effect_ok (Renews p) is).0

  pub known_changed : (p : Plan) → h.effect ≡ Changes p → k ≤ rally
  known_changed p is = leb-true k rally (effect_ok (Changes p) is).0
