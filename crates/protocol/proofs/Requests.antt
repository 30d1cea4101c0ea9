-- What a message asks by its id: which kinds it may have, which messages speak of one plan, and that an ACK is not answered. Each goes down
-- the rules' chain of ids.
use Prim.Native.Nat.{ℕ, ◌≤◌, ◌<◌}
use mathlib.Core.Path.{◌≡◌, refl, sym, ◌∙◌}
use mathlib.Core.List.{List}
use mathlib.Core.Bool.{Bool, true, false, not, cond, ◌&&◌, ◌||◌}
use lib.Dec.{eqb}
use borrow.Author.Tests.{eqb-true, ne_eqb}
use Rattle.std.proofs.lemmas.Bool.{le-leb, lt-leb}
use Rattle.rules.specs.Payload.{Bytes}
use Rattle.rules.specs.Layouts.{partial_list_id, set_current_id, current_id, request_list_id, count_id, clear_all_id, ack_id, request_int_id, item_int_id, statustext_id}
use Rattle.rules.specs.Messages.{Station, Message, message_of, decode}
use Rattle.rule_laws.specs.Tests.{either}
use Rattle.rules.specs.Calls.{is_known}
use Rattle.rules.specs.Step.{kind_ok}
use Rattle.places.specs.Forms.{Store, words}
use Rattle.plan.specs.declared.Plan.{Plan}
use Rattle.refusal.specs.Refusals.{request_of}
use Rattle.rules.specs.Limits.{rally, every_kind, accepted}
use Rattle.upload.specs.declared.Say.TheVariants.{Silent}
use Rattle.upload.specs.Turns.{ended, keeps, moves, own_upload, ack_turned}
use Rattle.record_steps.specs.Doing.{plan_among, plan_done, known_done}

-- every message but CLEAR_ALL and ACK may have the kinds up to the last
pub kind_known : (id kind : ℕ) (p : Bytes) → (id ≡ clear_all_id → ⊥) → (id ≡ ack_id → ⊥) → is_known kind ≡ kind_ok kind (request_of (decode id p))
unfolding decode message_of kind_ok
kind_known id kind p n45 n47 =
    either P (eqb id partial_list_id) (λ e. refl) (λ e.
    either P (eqb id set_current_id) (λ e. refl) (λ e.
    either P (eqb id current_id) (λ e. refl) (λ e.
    either P (eqb id request_list_id) (λ e. refl) (λ e.
    either P (eqb id count_id) (λ e. refl) (λ e.
    either P (eqb id clear_all_id) (λ e. absurd (n45 (eqb-true id clear_all_id e))) (λ e.
    either P (eqb id ack_id) (λ e. absurd (n47 (eqb-true id ack_id e))) (λ e.
    either P (eqb id request_int_id) (λ e. refl) (λ e.
    either P (eqb id item_int_id) (λ e. refl) (λ e.
    either P (eqb id statustext_id) (λ e. refl) (λ e. refl))))))))))
  where
    P : Message → Type 0
    P m = is_known kind ≡ kind_ok kind (request_of m)

-- every message but SET_CURRENT and CLEAR_ALL speaks of the plan of its kind
pub of_one_plan : (home : Bool) (ps : List Plan) (current : ℕ) (s : Store) (from : Station) (now kind id : ℕ) (p : Bytes) → (id ≡ set_current_id → ⊥) → (id ≡ clear_all_id → ⊥)
    → known_done words home ps current s from now kind (request_of (decode id p)) ≡ plan_done words home (plan_among ps kind) current s from now kind (request_of (decode id p))
unfolding decode message_of known_done
of_one_plan home ps current s from now kind id p n41 n45 =
    either P (eqb id partial_list_id) (λ e. refl) (λ e.
    either P (eqb id set_current_id) (λ e. absurd (n41 (eqb-true id set_current_id e))) (λ e.
    either P (eqb id current_id) (λ e. refl) (λ e.
    either P (eqb id request_list_id) (λ e. refl) (λ e.
    either P (eqb id count_id) (λ e. refl) (λ e.
    either P (eqb id clear_all_id) (λ e. absurd (n45 (eqb-true id clear_all_id e))) (λ e.
    either P (eqb id ack_id) (λ e. refl) (λ e.
    either P (eqb id request_int_id) (λ e. refl) (λ e.
    either P (eqb id item_int_id) (λ e. refl) (λ e.
    either P (eqb id statustext_id) (λ e. refl) (λ e. refl))))))))))
  where
    P : Message → Type 0
    P m = known_done words home ps current s from now kind (request_of m) ≡ plan_done words home (plan_among ps kind) current s from now kind (request_of m)

-- an ACK's turn says nothing
pub says_nothing : (p : Plan) (from : Station) (result : ℕ) → (ack_turned p from result).say ≡ Silent
unfolding ack_turned
says_nothing p from result = go (own_upload from p.upload && not (eqb result accepted))
  where
    go : (t : Bool) → (cond t (moves (ended p) Silent) (keeps Silent)).say ≡ Silent
    go true = refl
    go false = refl

-- CLEAR_ALL may have what is covered
pub clear_ok : (kind id : ℕ) (p : Bytes) → id ≡ clear_all_id → (is_known kind || eqb kind every_kind) ≡ true → kind_ok kind (request_of (decode id p)) ≡ true
unfolding decode message_of kind_ok
clear_ok kind id p e ok = rw e ok

-- an ACK may have any kind
pub ack_ok : (kind id : ℕ) (p : Bytes) → id ≡ ack_id → kind_ok kind (request_of (decode id p)) ≡ true
unfolding decode message_of kind_ok
ack_ok kind id p e = rw e refl

-- a message that is not CLEAR_ALL or ACK may have the kinds up to the last
pub one_ok : (kind id : ℕ) (p : Bytes) → (id ≡ clear_all_id → ⊥) → (id ≡ ack_id → ⊥) → kind ≤ rally → kind_ok kind (request_of (decode id p)) ≡ true
one_ok kind id p n45 n47 known = sym (kind_known id kind p n45 n47) ∙ le-leb kind rally known

-- and no other
pub past_not_ok : (kind id : ℕ) (p : Bytes) → (id ≡ clear_all_id → ⊥) → (id ≡ ack_id → ⊥) → rally < kind → kind_ok kind (request_of (decode id p)) ≡ false
past_not_ok kind id p n45 n47 past = sym (kind_known id kind p n45 n47) ∙ lt-leb kind rally past

-- CLEAR_ALL may not have a kind that nothing covers
pub clear_not_ok : (kind id : ℕ) (p : Bytes) → id ≡ clear_all_id → rally < kind → (kind ≡ every_kind → ⊥) → kind_ok kind (request_of (decode id p)) ≡ false
unfolding decode message_of kind_ok
clear_not_ok kind id p e past other = rw (e, lt-leb kind rally past, ne_eqb kind every_kind other) refl

-- and SET_CURRENT none past the last
pub set_not_ok : (kind id : ℕ) (p : Bytes) → id ≡ set_current_id → rally < kind → kind_ok kind (request_of (decode id p)) ≡ false
unfolding decode message_of kind_ok
set_not_ok kind id p e past = rw (e, lt-leb kind rally past) refl
