-- What a row of the table says of a message, which messages are read here, their target and kind; and a payload as it is read.
use Rattle.std.specs.Prelude.{ℕ, ◌+◌, ◌<◌, ◌≡◌, Bool, true, false, get_or, take, Option, None, Some, is_some, IfSome}
use Rattle.rules.specs.Limits.{flight, item_bytes}
use Rattle.rules.specs.Payload.{Bytes}
use Rattle.rules.specs.Layouts.{layout_of}
use Rattle.message_table.specs.declared.HeadAt.{HeadAt}
use Rattle.message_table.specs.declared.Row.{Row}
use Rattle.message_table.specs.declared.Head.{Head}
use Rattle.message_table.specs.declared.Received.{Received}
use Rattle.rules.specs.Messages.{decode, Station, station, Message, partial_list, set_current, current, request_list, count, clear_all, ack, request_int, item_int, statustext, unknown}

-- "Ids 42 and 253 are only written."
abbrev pub is_read : Message → Bool
is_read (partial_list to start end kind) = true
is_read (set_current to seq) = true
is_read (current seq total state mode mission fence rally) = false
is_read (request_list to kind) = true
is_read (count to n kind plan_number) = true
is_read (clear_all to kind) = true
is_read (ack to result kind plan_number) = true
is_read (request_int to seq kind) = true
is_read (item_int to is_current item) = true
is_read (statustext severity text id chunk) = false
is_read unknown = false

-- the target of a message; one without a target is for all
abbrev pub target_of : Message → Station
target_of (partial_list to start end kind) = to
target_of (set_current to seq) = to
target_of (current seq total state mode mission fence rally) = station 0 0
target_of (request_list to kind) = to
target_of (count to n kind plan_number) = to
target_of (clear_all to kind) = to
target_of (ack to result kind plan_number) = to
target_of (request_int to seq kind) = to
target_of (item_int to is_current item) = to
target_of (statustext severity text id chunk) = station 0 0
target_of unknown = station 0 0

-- the kind of plan that a message speaks of: flight where it has no such field
abbrev pub kind_of : Message → ℕ
kind_of (partial_list to start end kind) = kind
kind_of (set_current to seq) = flight
kind_of (current seq total state mode mission fence rally) = flight
kind_of (request_list to kind) = kind
kind_of (count to n kind plan_number) = kind
kind_of (clear_all to kind) = kind
kind_of (ack to result kind plan_number) = kind
kind_of (request_int to seq kind) = kind
kind_of (item_int to is_current item) = item.kind
kind_of (statustext severity text id chunk) = flight
kind_of unknown = flight

abbrev pub head_of : Message → Head
head_of m = record { system = (target_of m).system; component = (target_of m).component; kind = kind_of m }

-- ---- the row of an id

-- the kind in a message's bytes: flight where it has no such field
abbrev pub kind_in : Bytes → Option ℕ → ℕ
kind_in b None = flight
kind_in b (Some at) = get_or b at 0

-- the head in a message's bytes
abbrev pub head_in : Bytes → HeadAt → Head
head_in b at = record { system = get_or b at.target 0; component = get_or b (at.target + 1) 0; kind = kind_in b at.kind }

-- a place at which a head stands is within the bytes that a message has that is read
pub record Within (at : HeadAt) : Type 0 where
  pub target : at.target + 1 < item_bytes
  pub kind : IfSome at.kind (λ k. k < item_bytes)

abbrev pub full_in : Option Row → ℕ
full_in None = 0
full_in (Some row) = row.full

abbrev pub head_at : Option Row → Option HeadAt
head_at None = None
head_at (Some row) = row.head

-- a row, or none, is that of an id: its full length, whether its messages are read, and which bytes of these are their head
pub record IsRowOf (id : ℕ) (row : Option Row) : Type 0 where
  pub full : full_in row ≡ (layout_of id).full
  pub read : (p : Bytes) → is_some (head_at row) ≡ is_read (decode id p)
  pub head : IfSome (head_at row) (λ at. (b : Bytes) → head_in b at ≡ head_of (decode id b))
  pub within : IfSome (head_at row) (λ at. Within at)

-- ---- a payload as it is read

-- "missing bytes are zero", "bytes past the full length are ignored": the bytes b, as many as the longest message has that is read, are those of a payload up to
-- a full length
pub record Owned (full : ℕ) (p b : Bytes) : Type 0 where
  pub byte : (i : ℕ) → i < item_bytes → get_or b i 0 ≡ get_or (take full p) i 0

-- what is received is what the payload says, and there is something where its message is read here
pub record ReadAs (id : ℕ) (p : Bytes) (r : Option Received) : Type 0 where
  pub read : is_some r ≡ is_read (decode id p)
  pub decodes : IfSome r (λ got. decode id got.own ≡ decode id p)
  pub heads : IfSome r (λ got. got.head ≡ head_of (decode id p))
