-- The calls, the refusals in their order, and what a call that is not refused says.
use Rattle.std.specs.Prelude.{ℕ, Bool, not, cond, ◌&&◌, ◌||◌, length, eqb, leb, ltb}
use Rattle.rules.specs.Limits.{flight, rally, store_words, reply_bytes_min, short_store, out_of_range, short_reply, empty_payload, not_read, not_for_us}
use Rattle.rules.specs.Payload.{Bytes}
use Rattle.rules.specs.Messages.{Station, Item, Message, partial_list, set_current, current, request_list, count, clear_all, ack, request_int, item_int, statustext, unknown, decode}

-- A call's arguments: "A message call adds own system and component, sender system and component, message id, payload and the
-- clock; a timer call, a kind and the clock." Of store and reply buffer the lengths: "outcome 14 now counts words" (M-106).
pub data Call : Type 0 where
  message : (own from : Station) (id : ℕ) (payload : Bytes) (clock store reply : ℕ) → Call
  timer : (kind clock store reply : ℕ) → Call
  done : (store : ℕ) → Call

-- how much of the store, and how long a reply buffer, a call is lent
abbrev pub store_lent : Call → ℕ
store_lent (message own from id payload clock store reply) = store
store_lent (timer kind clock store reply) = store
store_lent (done store) = store

abbrev pub buffer_lent : Call → ℕ
buffer_lent (message own from id payload clock store reply) = reply
buffer_lent (timer kind clock store reply) = reply
buffer_lent (done store) = 0

-- what a message that is read here says, beside its kind
pub data Request : Type 0 where
  -- SET_CURRENT
  chooses : (seq : ℕ) → Request
  -- REQUEST_LIST
  asks_list : Request
  -- COUNT
  announces : (n : ℕ) → Request
  -- MISSION_WRITE_PARTIAL_LIST
  changes : (start end : ℕ) → Request
  -- CLEAR_ALL
  clears : Request
  -- ACK
  acknowledges : (result : ℕ) → Request
  -- REQUEST_INT
  asks_item : (seq : ℕ) → Request
  -- ITEM_INT
  brings : Item → Request

-- a call as the rules hear it
pub data Heard : Type 0 where
  refuses : (outcome : ℕ) → Heard
  request : (from : Station) (now kind : ℕ) → Request → Heard
  expiry : (now kind : ℕ) → Heard
  command_done : Heard

-- 13: "target system neither ours nor 0, or target component neither ours nor 0"
abbrev pub ours_or_all : (own target : ℕ) → Bool
ours_or_all own target = eqb target own || eqb target 0

unfoldable pub for_us : (own to : Station) → Heard → Heard
for_us own to h =
    cond (ours_or_all own.system to.system && ours_or_all own.component to.component) h (refuses not_for_us)

-- 12: "message id not read here". "Ids 42 and 253 are only written." SET_CURRENT has no kind: it speaks of the flight plan.
unfoldable pub heard_message : (own from : Station) (now : ℕ) → Message → Heard
heard_message own from now (set_current to seq) = for_us own to (request from now flight (chooses seq))
heard_message own from now (request_list to kind) = for_us own to (request from now kind asks_list)
heard_message own from now (count to n kind plan_number) = for_us own to (request from now kind (announces n))
heard_message own from now (partial_list to start end kind) = for_us own to (request from now kind (changes start end))
heard_message own from now (clear_all to kind) = for_us own to (request from now kind clears)
heard_message own from now (ack to result kind plan_number) = for_us own to (request from now kind (acknowledges result))
heard_message own from now (request_int to seq kind) = for_us own to (request from now kind (asks_item seq))
heard_message own from now (item_int to is_current item) = for_us own to (request from now item.kind (brings item))
heard_message own from now (current seq total state mode mission fence rally) = refuses not_read
heard_message own from now (statustext severity text id chunk) = refuses not_read
heard_message own from now unknown = refuses not_read

-- a kind that is not above 2
abbrev pub is_known : ℕ → Bool
is_known kind = leb kind rally

-- The outcomes of a refused call "in this order": 14, 15, 10, 11, 12, 13. `ranged` says that no number of the state is out of its range.
-- "Timer calls skip 11 and 13." "for them [command done] only 14 and 15 apply"
unfoldable pub heard : (ranged : Bool) → Call → Heard
heard ranged (message own from id payload clock store reply) =
    cond (ltb store store_words) (refuses short_store)
    (cond (not ranged) (refuses out_of_range)
    (cond (ltb reply reply_bytes_min) (refuses short_reply)
    (cond (eqb (length payload) 0) (refuses empty_payload)
    (heard_message own from clock (decode id payload)))))
heard ranged (timer kind clock store reply) =
    cond (ltb store store_words) (refuses short_store)
    (cond (not ranged) (refuses out_of_range)
    (cond (ltb reply reply_bytes_min) (refuses short_reply)
    (cond (is_known kind) (expiry clock kind) (refuses not_read))))
heard ranged (done store) = cond (ltb store store_words) (refuses short_store) (cond (not ranged) (refuses out_of_range) command_done)
