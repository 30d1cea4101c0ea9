-- A message that is read here and has none of the other ids is ITEM_INT: it goes down the rules' chain of ids.
use Prim.Native.Nat.{ℕ}
use mathlib.Core.Path.{◌≡◌, sym, ap}
use mathlib.Core.Bool.{Bool, true, true≢false}
use lib.Dec.{eqb}
use borrow.Author.Tests.{eqb-true}
use Rattle.rules.specs.Payload.{Bytes}
use Rattle.rules.specs.Layouts.{partial_list_id, set_current_id, current_id, request_list_id, count_id, clear_all_id, ack_id, request_int_id, item_int_id, statustext_id}
use Rattle.rules.specs.Messages.{Station, Message, message_of, decode}
use Rattle.rule_laws.specs.Tests.{either}
use Rattle.rules.specs.Calls.{brings}
use Rattle.item.specs.Patterns.{patterns}
use Rattle.wire.specs.declared.structs.ItemInt.{ItemInt}
use Rattle.message_table.specs.Table.{is_read}
use Rattle.wire.specs.Structs.{item_int_message}
use Rattle.places.specs.Forms.{Store, words}
use Rattle.plan.specs.declared.Plan.{Plan}
use Rattle.refusal.specs.Refusals.{request_of}
use Rattle.upload.specs.declared.Turned.{Turned}
use Rattle.upload.specs.Turns.{TurnAndStore, turn_with, item_turned}
use Rattle.answers.specs.declared.Handled.{Handled}
use Rattle.answers.specs.Answered.{Handles}
use Rattle.record_steps.specs.Answers.{answer_of}
use Rattle.record_steps.specs.Doing.{plan_done}
use Rattle.protocol.specs.Handlers.{DoneBy}
use Rattle.protocol.proofs.turn.Goals as goal

-- a message that is read here and is none of the others is ITEM_INT
item_left : (id : ℕ) (p : Bytes) → is_read (decode id p) ≡ true
    → (id ≡ partial_list_id → ⊥) → (id ≡ set_current_id → ⊥) → (id ≡ request_list_id → ⊥) → (id ≡ count_id → ⊥) → (id ≡ clear_all_id → ⊥) → (id ≡ ack_id → ⊥) → (id ≡ request_int_id → ⊥)
    → id ≡ item_int_id
unfolding decode message_of
item_left id p read n38 n41 n43 n44 n45 n47 n51 =
    either P (eqb id partial_list_id) (λ e r. absurd (n38 (eqb-true id partial_list_id e))) (λ e.
    either P (eqb id set_current_id) (λ e r. absurd (n41 (eqb-true id set_current_id e))) (λ e.
    either P (eqb id current_id) (λ e r. absurd (true≢false (sym r))) (λ e.
    either P (eqb id request_list_id) (λ e r. absurd (n43 (eqb-true id request_list_id e))) (λ e.
    either P (eqb id count_id) (λ e r. absurd (n44 (eqb-true id count_id e))) (λ e.
    either P (eqb id clear_all_id) (λ e r. absurd (n45 (eqb-true id clear_all_id e))) (λ e.
    either P (eqb id ack_id) (λ e r. absurd (n47 (eqb-true id ack_id e))) (λ e.
    either P (eqb id request_int_id) (λ e r. absurd (n51 (eqb-true id request_int_id e))) (λ e.
    either P (eqb id item_int_id) (λ e r. eqb-true id item_int_id e) (λ e.
    either P (eqb id statustext_id) (λ e r. absurd (true≢false (sym r))) (λ e r. absurd (true≢false (sym r)))))))))))) read
  where
    P : Message → Type 0
    P m = is_read m ≡ true → id ≡ item_int_id

brings_item : (home : Bool) (p : Plan) (current : ℕ) (s : Store) (from : Station) (clock kind id : ℕ) (own b b' : Bytes) (h : Handled) (m : ItemInt) (s' : Store) (turned : Turned)
    → id ≡ item_int_id → item_int_message m ≡ decode item_int_id own
    → turn_with turned s' ≡ item_turned words home s kind p.upload p from clock (patterns m.item)
    → Handles turned.effect (answer_of turned.say from kind) b b' h
    → DoneBy (plan_done words home p current s from clock kind (request_of (decode id own))) s' b b' h
unfolding plan_done
brings_item home p current s from clock kind id own b b' h m s' turned e reads turn handles =
    let is : request_of (decode id own) ≡ brings (patterns m.item) = rw e (ap request_of (sym reads)) in
    rw is
    (record { handles = rw (sym (ap (λ (t : TurnAndStore). t.turned) turn)) handles; store = ap (λ (t : TurnAndStore). t.store) turn })

pub returns-in_default : goal.returns-in_default
returns-in_default c =
    let rest = c.in_default.in_default-own.rest in
    let pre = c.requires.own_value in
    let e : c.args.id ≡ item_int_id = item_left c.args.id c.args.own.now pre.0 rest.0.1 pre.1 rest.0.0.0.1 rest.0.0.1 pre.2 pre.3 rest.1 in
    brings_item _ _ _ _ _ _ _ _ _ _ _ _ c.read_item_int.result _ _ e c.read_item_int.ensures.0 c.take_item-turned.ensures (rw (← c.number-number.ensures) c.told-in_default.ensures)
