-- What a message or a timer call does, over the plans of the three kinds, the current item and the store, in every form of store: its effect on the state, the store after it, and the
-- answer.
use Rattle.std.specs.Prelude.{ℕ, ◌≤◌, ◌≡◌, List, [], ◌∷◌, Bool, false, cond, ◌||◌, get_or, eqb}
use Rattle.rules.specs.Limits.{flight, fence, rally, every_kind, size_of, accepted, unsupported, denied}
use Rattle.rules.specs.Messages.{Station, ack}
use Rattle.rules.specs.Model.{flown}
use Rattle.rules.specs.Calls.{Request, chooses, asks_list, announces, changes, clears, acknowledges, asks_item, brings}
use Rattle.rules.specs.Step.{Answer, silent, says, covered, kind_ok}
use Rattle.places.specs.Forms.{Store, Form}
use Rattle.plan.specs.declared.Plan.{Plan}
use Rattle.plan.specs.View.{empty_plan}
use Rattle.upload.specs.declared.Effect.{Effect}
use Rattle.upload.specs.declared.Effect.TheVariants.{Nothing, Renews, EmptiesAll}
use Rattle.upload.specs.declared.Turned.{Turned}
use Rattle.upload.specs.Turns.{TurnAndStore, emptied, count_turned, part_turned, ack_turned, timer_turned, item_turned, others_upload, station_of}
use Rattle.record_steps.specs.Answers.{answer_of}
use Rattle.record_steps.specs.Shown.{list_answer, request_answer, choose_effect, choose_answer}

pub record Done : Type 0 where
  pub effect : Effect
  pub store : Store
  pub answer : Answer

abbrev pub does : Effect → Store → Answer → Done
does e s a = record { effect = e; store = s; answer = a }

-- a turn of one plan, answered to a station
abbrev pub turns : Store → (kind : ℕ) → Station → Turned → Done
turns s kind to t = does t.effect s (answer_of t.say to kind)

abbrev pub item_turns : (kind : ℕ) → Station → TurnAndStore → Done
item_turns kind from t = turns t.store kind from t.turned

-- the plan of a kind among those of all; none, an empty one, where there is no such kind
abbrev pub plan_among : List Plan → (kind : ℕ) → Plan
plan_among ps kind = get_or ps kind empty_plan

-- p is the plan of a kind among those of all, where there is such a kind
abbrev pub IsPlanOf : (kind : ℕ) → Plan → List Plan → Type 0
IsPlanOf kind p ps = kind ≤ rally → p ≡ plan_among ps kind

-- ---- clears

abbrev pub others_among : List Plan → Station → List ℕ → Bool
others_among ps from [] = false
others_among ps from (kind ∷ ks) = others_upload from (plan_among ps kind).upload || others_among ps from ks

abbrev pub clear_effect : List Plan → (kind : ℕ) → Effect
clear_effect ps kind = cond (eqb kind every_kind) EmptiesAll (Renews (emptied (plan_among ps kind)))

unfoldable pub clear_done : List Plan → Store → Station → (kind : ℕ) → Done
clear_done ps s from kind =
    cond (others_among ps from (covered kind)) (does Nothing s (says (ack from denied kind 0)))
    (does (clear_effect ps kind) s (says (ack from accepted kind 0)))

-- ---- every message of a kind that it may have

-- the messages that speak of the plan of a kind; the others leave it
unfoldable pub plan_done : Form → (home : Bool) → Plan → (current : ℕ) → Store → Station → (now kind : ℕ) → Request → Done
plan_done F home p current s from now kind (chooses seq) = does Nothing s silent
plan_done F home p current s from now kind asks_list = does Nothing s (list_answer p from kind)
plan_done F home p current s from now kind (announces n) = turns s kind from (count_turned p from now n (size_of kind))
plan_done F home p current s from now kind (changes start end) = turns s kind from (part_turned p from now start end)
plan_done F home p current s from now kind clears = does Nothing s silent
plan_done F home p current s from now kind (acknowledges result) = turns s kind from (ack_turned p from result)
plan_done F home p current s from now kind (asks_item seq) = does Nothing s (request_answer F p current s from kind seq)
plan_done F home p current s from now kind (brings item) = item_turns kind from (item_turned F home s kind p.upload p from now item)

-- SET_CURRENT speaks of the flight plan and of all numbers, CLEAR_ALL of all plans
unfoldable pub known_done : Form → (home : Bool) → List Plan → (current : ℕ) → Store → Station → (now kind : ℕ) → Request → Done
known_done F home ps current s from now kind (chooses seq) =
    does (choose_effect (plan_among ps flight) (flown home seq)) s (choose_answer (plan_among ps flight) (plan_among ps fence) (plan_among ps rally) (flown home seq))
known_done F home ps current s from now kind asks_list = plan_done F home (plan_among ps kind) current s from now kind asks_list
known_done F home ps current s from now kind (announces n) = plan_done F home (plan_among ps kind) current s from now kind (announces n)
known_done F home ps current s from now kind (changes start end) = plan_done F home (plan_among ps kind) current s from now kind (changes start end)
known_done F home ps current s from now kind clears = clear_done ps s from kind
known_done F home ps current s from now kind (acknowledges result) = plan_done F home (plan_among ps kind) current s from now kind (acknowledges result)
known_done F home ps current s from now kind (asks_item seq) = plan_done F home (plan_among ps kind) current s from now kind (asks_item seq)
known_done F home ps current s from now kind (brings item) = plan_done F home (plan_among ps kind) current s from now kind (brings item)

unfoldable pub message_done : Form → (home : Bool) → List Plan → (current : ℕ) → Store → Station → (now kind : ℕ) → Request → Done
message_done F home ps current s from now kind r = cond (kind_ok kind r) (known_done F home ps current s from now kind r) (does Nothing s (says (ack from unsupported kind 0)))

unfoldable pub timer_done : Plan → Store → (now kind : ℕ) → Done
timer_done p s now kind = turns s kind (station_of p.upload) (timer_turned p.upload p now)
