-- An item's step in two parts: the judgement, which reads the store, and what follows from it. `turned_judged` has them as `item_turned`.
use Rattle.std.specs.Prelude.{ℕ, ◌≡◌, refl, Bool, true, false, not, cond, ◌==◌, Option, None, Some, Result, Ok, Err}
use Rattle.rules.specs.Limits.{accepted}
use Rattle.rules.specs.Messages.{Station, Item, same_station}
use Rattle.limits.specs.declared.Fault.TheVariants.{InvalidSequence, Denied}
use Rattle.plan.specs.declared.Plan.{Plan}
use Rattle.plan.specs.declared.Run.{Run}
use Rattle.places.specs.Forms.{Store, words}
use Rattle.plan.specs.View.{station_in}
use Rattle.upload.specs.declared.Say.TheVariants.{Ack, Ask}
use Rattle.upload.specs.declared.Turned.{Turned}
use Rattle.upload.specs.Faults.{fault_named}
use Rattle.upload.specs.Turns.{ended, keeps, moves, TurnAndStore, turn_with, stored, valid_item_turned, item_verdict, item_turned}

-- of an item in a running upload: nothing where it is taken, or what it does otherwise
unfoldable pub judged_as : (home : Bool) → Store → (kind : ℕ) → Plan → Run → Station → Item → Result (Unit {0}) Turned
judged_as home s kind p r from item =
    cond (not (same_station from (station_in r))) (Err (keeps (Ack (Err Denied))))
    (cond (not (item.seq == r.next)) (Err (keeps (Ask r.next)))
    (cond (not (item_verdict words home s kind p r item == accepted)) (Err (moves (ended p) (Ack (Err (fault_named (item_verdict words home s kind p r item))))))
    (Ok tt)))

abbrev pub turned_as : Result (Unit {0}) Turned → Store → (kind : ℕ) → Plan → Run → (now : ℕ) → Item → TurnAndStore
turned_as (Err t) s kind p r now item = turn_with t s
turned_as (Ok v) s kind p r now item = valid_item_turned words (stored words s kind p r item) kind p r now

-- of an item beside any upload: where none runs, it is refused
abbrev pub turned_by : (home : Bool) → Store → (kind : ℕ) → Option Run → Plan → Station → (now : ℕ) → Item → TurnAndStore
turned_by home s kind None p from now item = turn_with (keeps (Ack (Err InvalidSequence))) s
turned_by home s kind (Some r) p from now item = turned_as (judged_as home s kind p r from item) s kind p r now item

pub running_judged : (home : Bool) (s : Store) (kind : ℕ) (p : Plan) (r : Run) (from : Station) (now : ℕ) (item : Item)
    → item_turned words home s kind (Some r) p from now item ≡ turned_as (judged_as home s kind p r from item) s kind p r now item
unfolding item_turned judged_as
running_judged home s kind p r from now item =
    go (not (same_station from (station_in r))) (not (item.seq == r.next)) (not (item_verdict words home s kind p r item == accepted))
  where
    go : (a b c : Bool)
        → cond a (turn_with (keeps (Ack (Err Denied))) s)
        (cond b (turn_with (keeps (Ask r.next)) s)
        (cond c (turn_with (moves (ended p) (Ack (Err (fault_named (item_verdict words home s kind p r item))))) s) (valid_item_turned words (stored words s kind p r item) kind p r now)))
        ≡ turned_as (cond a (Err (keeps (Ack (Err Denied)))) (cond b (Err (keeps (Ask r.next))) (cond c (Err (moves (ended p) (Ack (Err (fault_named (item_verdict words home s kind p r item)))))) (Ok tt)))) s kind p r now item
    go true b c = refl
    go false true c = refl
    go false false true = refl
    go false false false = refl

pub turned_judged : (home : Bool) (s : Store) (kind : ℕ) (u : Option Run) (p : Plan) (from : Station) (now : ℕ) (item : Item)
    → item_turned words home s kind u p from now item ≡ turned_by home s kind u p from now item
unfolding item_turned
turned_judged home s kind None p from now item = refl
turned_judged home s kind (Some r) p from now item = running_judged home s kind p r from now item
