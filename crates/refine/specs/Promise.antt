-- The promise of every call, `Serves`, over any type of states and what they show; and what the service's own state says of halves and of the spare places of a
-- store of a form.
use Rattle.std.specs.Prelude.{ℕ, ◌+◌, ◌≤◌, ◌≡◌, [], ◌++◌, Bool, true, false, not, cond, ◌&&◌, length, get_or, take, drop, eqb, leb, ltb, Option, Some, None}
use Rattle.rules.specs.Limits.{rally, store_words, accepted}
use Rattle.rules.specs.Payload.{Bytes}
use Rattle.rules.specs.Messages.{Station, same_station, Item}
use Rattle.rules.specs.Model as model
use Rattle.rules.specs.Model.{Model, verdict_on}
use Rattle.rules.specs.NextCommand.{Command}
use Rattle.rules.specs.Calls.{Call, store_lent, chooses, asks_list, announces, changes, clears, acknowledges, asks_item, brings, Heard, refuses, request, expiry, command_done, is_known, heard}
use Rattle.rules.specs.Step.{is_refused, outcome_of, reply_id, reply_bytes, command_in, ReadsBack, step}
use Rattle.plan.specs.declared.State.{State}
use Rattle.plan.specs.declared.Plan.{Plan}
use Rattle.plan.specs.declared.Run.{Run}
use Rattle.places.specs.Forms.{Store, Form, least, offset_of}
use Rattle.plan.specs.View.{plan_of, station_in, task_in}

-- what a call returns: the new state, the outcome, the reply's id and length, and the command of a "command done" call (Stuck for any other call)
pub record Result (State : Type 0) : Type 0 where
  pub state : State
  pub outcome : ℕ
  pub id : ℕ
  pub len : ℕ
  pub command : Command

-- the plan number that is kept
abbrev pub number_of : Model → (kind : ℕ) → ℕ
number_of m kind = (model.plan_of m.shown kind).number

-- `view` is what a state and a store show, `half` says in which half of the store a kind's plan stands, and `spare` which of the store's numbers a
-- call may change though nothing shows them.
module _ (State : Type 0) (view : State → Store → Model) (half : State → ℕ → Bool) (spare : State → Call → ℕ → Bool) where
  -- Call c on state st, store s and reply buffer b gives the result r, store s' and buffer b'.
  pub record Serves (c : Call) (st : State) (s s' : Store) (b b' : Bytes) (r : Result State) : Type 0 where
    -- "which outcome, reply" and command: those of the rules
    pub outcome : r.outcome ≡ outcome_of (step (view st s) c).answer
    pub id : r.id ≡ reply_id (step (view st s) c).answer
    pub len : r.len ≡ length (reply_bytes (step (view st s) c).answer)
    pub command : r.command ≡ command_in (step (view st s) c).answer
    -- the reply's bytes, then the old buffer past them
    pub buffer : b' ≡ reply_bytes (step (view st s) c).answer ++ drop (length (reply_bytes (step (view st s) c).answer)) b
    -- "What we write reads back as what was meant": where the answer is a message, the reply is read as that message
    pub reads : ReadsBack (step (view st s) c).answer r.id (take r.len b')
    -- what is shown after the call is the rules' model
    pub model : view r.state s' ≡ (step (view st s) c).model
    -- "a replacement switches to it, emptying doesn't": a kind's half turns over exactly where its plan number moved
    pub halves :
        (k : ℕ) → k ≤ rally
        → half r.state k ≡ cond (eqb (number_of (step (view st s) c).model k) (number_of (view st s) k)) (half st k) (not (half st k))
    -- a refused call changes nothing
    pub unchanged : is_refused (step (view st s) c).answer ≡ true → (r.state ≡ st) × (s' ≡ s)
    -- no number of the store changes beside the spare ones
    pub beside : (i : ℕ) → spare st c i ≡ false → get_or s' i 0 ≡ get_or s i 0
    pub long : length s' ≡ length s

-- ---- the service's own state

-- in which half of the store a kind's plan stands: true, the second
abbrev pub half_of : State → ℕ → Bool
half_of st kind = (plan_of st kind).half

module _ (F : Form) where
  -- n of a store's numbers are too few for a call exactly where the rules, which count words, say so
  abbrev pub LentIn : Call → ℕ → Type 0
  LentIn c n = ltb n (least F) ≡ ltb (store_lent c) store_words

  -- number i of the store is one of the item places from `low` on and below `high`
  abbrev pub in_places : (half : Bool) (kind low high i : ℕ) → Bool
  in_places half kind low high i = leb (offset_of F half kind low) i && ltb i (offset_of F half kind high)

  -- An item, as the one which an upload of a kind expects next, is the last of a part, and valid: the plan's other items are put beside it. (No item of a part is judged by those
  -- taken before it.)
  abbrev pub fills_up : (home : Bool) (kind : ℕ) → Run → Item → Bool
  fills_up home kind r item = r.partial && eqb r.next r.last && eqb (verdict_on home kind (task_in r) r.next [] item) accepted

  -- An item of a kind, from a station, may change one place: that of the item which the kind's upload expects next, in the half that the plan is not in; where it is the last of a
  -- part, and valid, the places there of all items that the plan is to have; and only where the upload is the station's own and the item has the number that it expects.
  unfoldable pub spare_in : (home : Bool) → Plan → (kind : ℕ) → Option Run → Station → Item → (i : ℕ) → Bool
  spare_in home p kind None from item i = false
  spare_in home p kind (Some r) from item i =
      same_station from (station_in r) && eqb item.seq r.next
      && in_places (not p.half) kind (cond (fills_up home kind r item) 0 r.next) (cond (fills_up home kind r item) r.count (r.next + 1)) i

  -- no other call changes anything in the store
  unfoldable pub spare_at : State → Heard → ℕ → Bool
  spare_at st (request from now kind (brings item)) i = is_known kind && spare_in st.home (plan_of st kind) kind (plan_of st kind).upload from item i
  spare_at st (request from now kind (chooses seq)) i = false
  spare_at st (request from now kind asks_list) i = false
  spare_at st (request from now kind (announces n)) i = false
  spare_at st (request from now kind (changes start end)) i = false
  spare_at st (request from now kind clears) i = false
  spare_at st (request from now kind (acknowledges result)) i = false
  spare_at st (request from now kind (asks_item seq)) i = false
  spare_at st (refuses outcome) i = false
  spare_at st (expiry now kind) i = false
  spare_at st command_done i = false

  -- What a call may change in the store though nothing shows it. What an item changes there that is invalid, or the last of a whole that fails, is free; an item
  -- that is taken is shown.
  abbrev pub spare : State → Call → ℕ → Bool
  spare st c i = spare_at st (heard true c) i
