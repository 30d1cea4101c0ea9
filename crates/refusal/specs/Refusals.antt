-- The refusal of a call as a number, and what a call that is not refused says: its request, with room in store and reply buffer.
use Rattle.std.specs.Prelude.{◌≡◌, refl, Bool, true, false, not, cond, ◌&&◌, ℕ, ◌≤◌, length, eqb, ltb, Option, is_some, IfSome}
use Rattle.std.proofs.Common.{◌∙◌, sym, ap, arith, ltb-false, leb-true, eqb-true, le-ltb, le-leb}
use Rattle.std.proofs.lemmas.Bool.{eqb-false, not-false}
use Rattle.rules.specs.Limits.{rally, store_words, reply_bytes_min, short_store, out_of_range, short_reply, empty_payload, not_read, not_for_us}
use Rattle.rules.specs.Payload.{Bytes}
use Rattle.rules.specs.Messages.{Station, Message, partial_list, set_current, current, request_list, count, clear_all, ack, request_int, item_int, statustext, unknown, decode}
use Rattle.rules.specs.Calls.{message, timer, done, Request, chooses, asks_list, announces, changes, clears, acknowledges, asks_item, brings, Heard, refuses, request, expiry, command_done, ours_or_all, for_us, heard_message, heard, is_known}
use Rattle.message_table.specs.declared.Received.{Received}
use Rattle.message_table.specs.Table.{is_read, target_of, kind_of, head_of}

-- the outcome of a refused call; 0 of any other
abbrev pub refusal_of : Heard → ℕ
refusal_of (refuses outcome) = outcome
refusal_of (request from now kind r) = 0
refusal_of (expiry now kind) = 0
refusal_of command_done = 0

-- a call that is refused is refused with its outcome
pub refused_with : (h : Heard) (outcome : ℕ) → refusal_of h ≡ outcome → (outcome ≡ 0 → ⊥) → h ≡ refuses outcome
refused_with (refuses n) outcome e some = ap refuses e
refused_with (request from now kind r) outcome e some = absurd (some (sym e))
refused_with (expiry now kind) outcome e some = absurd (some (sym e))
refused_with command_done outcome e some = absurd (some (sym e))

-- what a message says beside its target and its kind; one that is not read here says nothing
abbrev pub request_of : Message → Request
request_of (partial_list to start end kind) = changes start end
request_of (set_current to seq) = chooses seq
request_of (current seq total state mode mission fence rally) = asks_list
request_of (request_list to kind) = asks_list
request_of (count to n kind plan_number) = announces n
request_of (clear_all to kind) = clears
request_of (ack to result kind plan_number) = acknowledges result
request_of (request_int to seq kind) = asks_item seq
request_of (item_int to is_current item) = brings item
request_of (statustext severity text id chunk) = asks_list
request_of unknown = asks_list

-- of a payload p it is known whether its message is read here, and where it is, its head
pub record HeadRead (id : ℕ) (p : Bytes) (received : Option Received) : Type 0 where
  pub is_read : is_some received ≡ is_read (decode id p)
  pub heads : IfSome received (λ got. got.head ≡ head_of (decode id p))

-- 14, 15 and 10 in their order; 0 where there is room and every number is in its range
unfoldable pub room_refusal : (ranged : Bool) (store reply : ℕ) → ℕ
room_refusal ranged store reply =
    cond (ltb store store_words) short_store (cond (not ranged) out_of_range (cond (ltb reply reply_bytes_min) short_reply 0))

-- a call that says h where it is not refused for room
abbrev room_for : (ranged : Bool) (store reply : ℕ) → Heard → Heard
room_for ranged store reply h =
    cond (ltb store store_words) (refuses short_store) (cond (not ranged) (refuses out_of_range) (cond (ltb reply reply_bytes_min) (refuses short_reply) h))

-- whether a target is ours, or all
abbrev pub is_for_us : (own to : Station) → Bool
is_for_us own to = ours_or_all own.system to.system && ours_or_all own.component to.component

-- the tests of a message call in their order
unfoldable pub heard_by : (ranged : Bool) (own from : Station) (m : Message) (size clock store reply : ℕ) → Heard
heard_by ranged own from m size clock store reply =
    room_for ranged store reply
    (cond (eqb size 0) (refuses empty_payload)
    (cond (not (is_read m)) (refuses not_read)
    (cond (not (is_for_us own (target_of m))) (refuses not_for_us)
    (request from clock (kind_of m) (request_of m)))))

turn : {A : Type 0} (t : Bool) (a b : A) → cond t a b ≡ cond (not t) b a
turn true a b = refl
turn false a b = refl

by_tests : (own from : Station) (now : ℕ) (m : Message)
    → heard_message own from now m
    ≡ cond (not (is_read m)) (refuses not_read) (cond (not (is_for_us own (target_of m))) (refuses not_for_us) (request from now (kind_of m) (request_of m)))
unfolding heard_message for_us
by_tests own from now (partial_list to start end kind) = turn (is_for_us own to) _ _
by_tests own from now (set_current to seq) = turn (is_for_us own to) _ _
by_tests own from now (current seq total state mode mission fence rally) = refl
by_tests own from now (request_list to kind) = turn (is_for_us own to) _ _
by_tests own from now (count to n kind plan_number) = turn (is_for_us own to) _ _
by_tests own from now (clear_all to kind) = turn (is_for_us own to) _ _
by_tests own from now (ack to result kind plan_number) = turn (is_for_us own to) _ _
by_tests own from now (request_int to seq kind) = turn (is_for_us own to) _ _
by_tests own from now (item_int to is_current item) = turn (is_for_us own to) _ _
by_tests own from now (statustext severity text id chunk) = refl
by_tests own from now unknown = refl

-- the rules hear a message call by these tests
pub heard_by_lem : (ranged : Bool) (own from : Station) (id : ℕ) (p : Bytes) (clock store reply : ℕ)
    → heard ranged (message own from id p clock store reply) ≡ heard_by ranged own from (decode id p) (length p) clock store reply
unfolding heard heard_by
heard_by_lem ranged own from id p clock store reply = rw (by_tests own from clock (decode id p))

-- ---- what holds of a call that is not refused

-- every number is in its range, and store and reply buffer are long enough
pub record Room (ranged : Bool) (store reply : ℕ) : Type 0 where
  pub in_range : ranged ≡ true
  pub long : store_words ≤ store
  pub room : reply_bytes_min ≤ reply

-- a message call: there is room, its message is read here, and it is the request of the decoded message
pub record HeardMessage (ranged : Bool) (own from : Station) (id : ℕ) (p : Bytes) (clock store reply : ℕ) : Type 0 where
  pub there : Room ranged store reply
  pub read : is_read (decode id p) ≡ true
  pub says : heard ranged (message own from id p clock store reply) ≡ request from clock (kind_of (decode id p)) (request_of (decode id p))

pub record HeardTimer (ranged : Bool) (kind clock store reply : ℕ) : Type 0 where
  pub there : Room ranged store reply
  pub known : kind ≤ rally
  pub says : heard ranged (timer kind clock store reply) ≡ expiry clock kind

pub record HeardDone (ranged : Bool) (store : ℕ) : Type 0 where
  pub in_range : ranged ≡ true
  pub long : store_words ≤ store
  pub says : heard ranged (done store) ≡ command_done

-- a refusal for room comes first; without one there is room, and what the call says decides
pub refused_first : (ranged : Bool) (store reply : ℕ) (h : Heard) → (room_refusal ranged store reply ≡ 0 → ⊥)
    → room_refusal ranged store reply ≡ refusal_of (room_for ranged store reply h)
unfolding room_refusal
refused_first ranged store reply h = go (ltb store store_words) (not ranged) (ltb reply reply_bytes_min)
  where
    go : (a b c : Bool) → (cond a short_store (cond b out_of_range (cond c short_reply 0)) ≡ 0 → ⊥)
        → cond a short_store (cond b out_of_range (cond c short_reply 0)) ≡ refusal_of (cond a (refuses short_store) (cond b (refuses out_of_range) (cond c (refuses short_reply) h)))
    go true b c some = refl
    go false true c some = refl
    go false false true some = refl
    go false false false some = absurd (some refl)

pub room_found : (ranged : Bool) (store reply : ℕ) → room_refusal ranged store reply ≡ 0 → Room ranged store reply
unfolding room_refusal
room_found ranged store reply e = go (ltb store store_words) (not ranged) (ltb reply reply_bytes_min) refl refl refl e
  where
    go : (a b c : Bool) → ltb store store_words ≡ a → not ranged ≡ b → ltb reply reply_bytes_min ≡ c
        → cond a short_store (cond b out_of_range (cond c short_reply 0)) ≡ 0 → Room ranged store reply
    go true b c ea eb ec none = absurd (omega arith)
    go false true c ea eb ec none = absurd (omega arith)
    go false false true ea eb ec none = absurd (omega arith)
    go false false false ea eb ec none =
        record { in_range = not-false ranged eb; long = ltb-false store store_words ea; room = ltb-false reply reply_bytes_min ec }

pub room_passed : (ranged : Bool) (store reply : ℕ) (h : Heard) → Room ranged store reply → room_for ranged store reply h ≡ h
room_passed ranged store reply h r = rw (le-ltb store store_words r.long, r.in_range, le-ltb reply reply_bytes_min r.room)

-- where nothing is refused there is room
room_there : (ranged : Bool) (store reply : ℕ) (h : Heard) → refusal_of (room_for ranged store reply h) ≡ 0 → Room ranged store reply
room_there ranged store reply h e = go (eqb (room_refusal ranged store reply) 0) refl
  where
    go : (t : Bool) → eqb (room_refusal ranged store reply) 0 ≡ t → Room ranged store reply
    go true none = room_found ranged store reply (eqb-true (room_refusal ranged store reply) 0 none)
    go false some =
        absurd (eqb-false (room_refusal ranged store reply) 0 some (refused_first ranged store reply h (eqb-false (room_refusal ranged store reply) 0 some) ∙ e))

-- a test that refuses with a number above 0 failed where nothing is refused
passed : (t : Bool) (n : ℕ) (h : Heard) → 1 ≤ n → refusal_of (cond t (refuses n) h) ≡ 0 → (t ≡ false) × (refusal_of h ≡ 0)
passed true n h above e = absurd (omega arith)
passed false n h above e = (refl, e)

known_passed : (kind clock : ℕ) → refusal_of (cond (is_known kind) (expiry clock kind) (refuses not_read)) ≡ 0 → kind ≤ rally
known_passed kind clock e = go (is_known kind) refl e
  where
    go : (t : Bool) → is_known kind ≡ t → refusal_of (cond t (expiry clock kind) (refuses not_read)) ≡ 0 → kind ≤ rally
    go true known e' = leb-true kind rally known
    go false unknown' e' = absurd (omega arith)

pub message_heard : (ranged : Bool) (own from : Station) (id : ℕ) (p : Bytes) (clock store reply : ℕ)
    → refusal_of (heard ranged (message own from id p clock store reply)) ≡ 0 → HeardMessage ranged own from id p clock store reply
unfolding heard_by
message_heard ranged own from id p clock store reply e =
    let m = decode id p in
    let by = heard_by_lem ranged own from id p clock store reply in
    let there = room_there ranged store reply _ (ap refusal_of (sym by) ∙ e) in
    let on = room_passed ranged store reply _ there in
    let first = passed (eqb (length p) 0) empty_payload _ (omega arith) (ap refusal_of (sym (by ∙ on)) ∙ e) in
    let second = passed (not (is_read m)) not_read _ (omega arith) first.1 in
    let third = passed (not (is_for_us own (target_of m))) not_for_us _ (omega arith) second.1 in
    record {
      there = there;
      read = not-false (is_read m) second.0;
      says = by ∙ on ∙ rw (first.0, second.0, third.0);
    }

pub timer_heard : (ranged : Bool) (kind clock store reply : ℕ)
    → refusal_of (heard ranged (timer kind clock store reply)) ≡ 0 → HeardTimer ranged kind clock store reply
unfolding heard
timer_heard ranged kind clock store reply e =
    let there = room_there ranged store reply _ e in
    let on = room_passed ranged store reply (cond (is_known kind) (expiry clock kind) (refuses not_read)) there in
    let known = known_passed kind clock (ap refusal_of (sym on) ∙ e) in
    record { there = there; known = known; says = on ∙ rw (le-leb kind rally known) }

pub done_heard : (ranged : Bool) (store : ℕ) → refusal_of (heard ranged (done store)) ≡ 0 → HeardDone ranged store
unfolding heard
done_heard ranged store e = go (ltb store store_words) (not ranged) refl refl e
  where
    go : (a b : Bool) → ltb store store_words ≡ a → not ranged ≡ b → refusal_of (cond a (refuses short_store) (cond b (refuses out_of_range) command_done)) ≡ 0
        → HeardDone ranged store
    go true b ea eb none = absurd (omega arith)
    go false true ea eb none = absurd (omega arith)
    go false false ea eb none = record { in_range = not-false ranged eb; long = ltb-false store store_words ea; says = rw (ea, eb) }
