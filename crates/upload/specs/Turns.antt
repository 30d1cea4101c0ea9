-- What each message and timer call makes of one kind's plan, over the state's own records; of the store in every form.
use Rattle.std.specs.Prelude.{ℕ, ◌+◌, Bool, false, cond, not, ◌&&◌, drop, ◌==◌, nat_lt, Option, Some, None, Ok, Err}
use Rattle.rules.specs.Limits.{max_repeats, expiry_ms, accepted}
use Rattle.rules.specs.Messages.{Station, station, same_station, Item}
use Rattle.rules.specs.Model.{Task, whole_task, part_task, next_number, elapsed, verdict_on, whole_fault}
use Rattle.rules.specs.Step.{part_ok}
use Rattle.plan.specs.declared.Plan.{Plan}
use Rattle.plan.specs.declared.Run.{Run}
use Rattle.limits.specs.declared.Fault.TheVariants.{NoSpace, InvalidSequence, Denied, Cancelled}
use Rattle.places.specs.Forms.{Store, Form, items_in}
use Rattle.places.specs.Writes.{put_at}
use Rattle.places.specs.Carried.{filled}
use Rattle.plan.specs.View.{station_in, task_in}
use Rattle.upload.specs.declared.Say.{Say}
use Rattle.upload.specs.declared.Say.TheVariants.{Silent, Ack, Ask}
use Rattle.upload.specs.declared.Effect.TheVariants.{Nothing, Turns, Renews, Changes}
use Rattle.upload.specs.declared.Turned.{Turned}
use Rattle.upload.specs.Faults.{fault_named}

-- ---- one definition for each update of a plan

abbrev pub with_upload : Plan → Option Run → Plan
with_upload p u = record { len = p.len; half = p.half; number = p.number; upload = u }

abbrev pub ended : Plan → Plan
ended p = with_upload p None

abbrev pub emptied : Plan → Plan
emptied p = record { len = 0; half = p.half; number = p.number; upload = None }

-- the items taken become the plan: the other half, the next number
abbrev pub replaced : Plan → ℕ → Plan
replaced p n = record { len = n; half = not p.half; number = next_number p.number; upload = None }

abbrev pub run_of : (system component : ℕ) → Task → (next now repeats : ℕ) → Run
run_of system component t next now repeats =
    record { from = record { system = system; component = component }; count = t.count; partial = t.partial; first = t.first; last = t.last; next = next; started = now; repeats = repeats }

abbrev pub started : Station → (now : ℕ) → Task → Run
started from now t = run_of from.system from.component t t.first now 0

abbrev pub one_more : Run → (now : ℕ) → Run
one_more r now = run_of r.from.system r.from.component (task_in r) (r.next + 1) now 0

abbrev pub asked_again : Run → (now : ℕ) → Run
asked_again r now = run_of r.from.system r.from.component (task_in r) r.next now (r.repeats + 1)

-- ---- whose an upload is

unfoldable pub others_upload : Station → Option Run → Bool
others_upload from None = false
others_upload from (Some r) = not (same_station from (station_in r))

unfoldable pub own_upload : Station → Option Run → Bool
own_upload from None = false
own_upload from (Some r) = same_station from (station_in r)

-- a timer call's reply goes to the upload's station
abbrev pub station_of : Option Run → Station
station_of None = station 0 0
station_of (Some r) = station_in r

-- ---- the handlers

abbrev pub keeps : Say → Turned
keeps say = record { effect = Nothing; say = say }

abbrev pub moves : Plan → Say → Turned
moves p say = record { effect = Turns p; say = say }

abbrev pub renews : Plan → Say → Turned
renews p say = record { effect = Renews p; say = say }

-- a plan put in, all of it or with a part changed
abbrev pub puts_in : (partial : Bool) → Plan → Say → Turned
puts_in partial p say = record { effect = cond partial (Changes p) (Renews p); say = say }

-- an upload starts, and its first item is asked for
abbrev pub opens : Plan → Station → (now : ℕ) → Task → Turned
opens p from now t = moves (with_upload p (Some (started from now t))) (Ask t.first)

unfoldable pub count_turned : Plan → Station → (now n size : ℕ) → Turned
count_turned p from now n size =
    cond (others_upload from p.upload) (keeps (Ack (Err Denied)))
    (cond (nat_lt size n) (moves (ended p) (Ack (Err NoSpace)))
    (cond (n == 0) (renews (emptied p) (Ack (Ok 0)))
    (opens p from now (whole_task n))))

unfoldable pub part_turned : Plan → Station → (now start end : ℕ) → Turned
part_turned p from now start end =
    cond (others_upload from p.upload) (keeps (Ack (Err Denied)))
    (cond (not (part_ok p.len start end)) (moves (ended p) (Ack (Err InvalidSequence)))
    (opens p from now (part_task p.len start end)))

unfoldable pub ack_turned : Plan → Station → (result : ℕ) → Turned
ack_turned p from result = cond (own_upload from p.upload && not (result == accepted)) (moves (ended p) Silent) (keeps Silent)

unfoldable pub timer_turned : Option Run → Plan → (now : ℕ) → Turned
timer_turned None p now = keeps Silent
timer_turned (Some r) p now =
    cond (nat_lt (elapsed now r.started) expiry_ms) (keeps Silent)
    (cond (nat_lt r.repeats max_repeats) (moves (with_upload p (Some (asked_again r now))) (Ask r.next))
    (moves (ended p) (Ack (Err Cancelled))))

-- ---- an item: the plan and the store after it

pub record TurnAndStore : Type 0 where
  pub turned : Turned
  pub store : Store

abbrev pub turn_with : Turned → Store → TurnAndStore
turn_with t s = record { turned = t; store = s }

module _ (F : Form) where
  -- the store with the item at the upload's next place
  abbrev pub stored : Store → (kind : ℕ) → Plan → Run → Item → Store
  stored s kind p r item = put_at F s (not p.half) kind r.next (F.keeps item)

  -- the store after the upload's last item: to a part the plan's other items are put
  unfoldable pub settled : Store → (kind : ℕ) → Plan → Run → Store
  settled s kind p r = cond r.partial (filled F s p.half kind (task_in r)) s

  -- what would be put in stands in the other half
  unfoldable pub last_turned : Store → (kind : ℕ) → Plan → Run → Turned
  last_turned s kind p r =
      let result = whole_fault kind (task_in r) (items_in F s (not p.half) kind r.count) in
      cond (result == accepted) (puts_in r.partial (replaced p r.count) (Ack (Ok (next_number p.number)))) (moves (ended p) (Ack (Err (fault_named result))))

  unfoldable pub valid_item_turned : Store → (kind : ℕ) → Plan → Run → (now : ℕ) → TurnAndStore
  valid_item_turned s kind p r now =
      cond (not (r.next == r.last)) (turn_with (moves (with_upload p (Some (one_more r now))) (Ask (r.next + 1))) s)
      (turn_with (last_turned (settled s kind p r) kind p r) (settled s kind p r))

  abbrev pub item_verdict : (home : Bool) → Store → (kind : ℕ) → Plan → Run → Item → ℕ
  item_verdict home s kind p r item = verdict_on home kind (task_in r) r.next (drop r.first (items_in F s (not p.half) kind r.next)) item

  unfoldable pub item_turned : (home : Bool) → Store → (kind : ℕ) → Option Run → Plan → Station → (now : ℕ) → Item → TurnAndStore
  item_turned home s kind None p from now item = turn_with (keeps (Ack (Err InvalidSequence))) s
  item_turned home s kind (Some r) p from now item =
      cond (not (same_station from (station_in r))) (turn_with (keeps (Ack (Err Denied))) s)
      (cond (not (item.seq == r.next)) (turn_with (keeps (Ask r.next)) s)
      (cond (not (item_verdict home s kind p r item == accepted)) (turn_with (moves (ended p) (Ack (Err (fault_named (item_verdict home s kind p r item))))) s)
      (valid_item_turned (stored s kind p r item) kind p r now)))
