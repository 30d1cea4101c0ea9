-- Cases: what the rules give beside what document 01 says, and the calls and items that the cases are made of.
pub mod Starred
pub mod Readings
pub mod Guards
pub mod Bounds
pub mod Words
pub mod Partial
pub mod Home
use Rattle.std.specs.Prelude.{ℕ, ◌≡◌, refl, List, [], ◌∷◌, map, true, false, replicate}
use Rattle.std.proofs.Common.{◌∙◌}
use Rattle.std.specs.Float.Ieee.{of_bits}
use Rattle.rules.specs.Limits.{store_words, reply_bytes_min, flight, fence}
use Rattle.rules.specs.Payload.{Bytes, number_at, bytes_of, significant, trim}
use Rattle.rules.specs.Layouts.{partial_list_id, set_current_id, request_list_id, count_id, clear_all_id, ack_id, request_int_id, item_int_id, layout_of, values, pack}
use Rattle.rules.specs.Messages.{Station, station, Item, Message, partial_list, set_current, request_list, count, clear_all, ack, request_int, item_int, encode, message_of, decode, item_of, item_in}
use Rattle.rules.specs.Model.{Model, Shown, Plan, Upload, idle, fresh, next_number, shown_number, elapsed, verdict_on, whole, whole_fault, is_others, is_own, with_plan, put, emptied, empty, flown, choose, task_in_range, upload_in_range, in_range}
use Rattle.rules.specs.NextCommand.{Command, command_of, or_one, passed_over, runs_after, meets, settle, search, next, reach, advance}
use Rattle.rules.specs.Calls.{Call, message, timer, done, for_us, heard_message, heard}
use Rattle.rules.specs.Values.{signed, finite, at_least_zero, above_zero, zero_to, Whole, in_word, whole_of, whole_from, whole_number}
use Rattle.rules.specs.Items.{target_in, param_ok, frame_ok, jumps_among, place_fault, fault_in, fault_among, fault}
use Rattle.rules.specs.Fence.{run_with, read_item, read_items, return_points, fence_ok}
use Rattle.rules.specs.Step.{Answer, says, command_in, step, run, on_count, part_ok, on_partial, on_valid_item, on_item, on_ack, on_clear, on_list, on_request, on_set_current, on_known, kind_ok, on_message, on_timer, act, answers}

-- what a proof by computation unfolds: the rules, whole
unfoldable pub computing : Unit {0}
unfolding number_at bytes_of significant trim layout_of values pack message_of encode decode item_of item_in signed finite at_least_zero above_zero zero_to in_word whole_of whole_from whole_number target_in param_ok frame_ok jumps_among place_fault fault_in fault_among fault run_with read_item read_items return_points fence_ok next_number shown_number elapsed verdict_on whole whole_fault is_others is_own with_plan put emptied empty flown choose task_in_range upload_in_range in_range command_of or_one passed_over runs_after meets settle search next reach advance for_us heard_message heard on_count part_ok on_partial on_valid_item on_item on_ack on_clear on_list on_request on_set_current on_known kind_ok on_message on_timer act step run answers of_bits
computing = tt

pub data Value : Type 0 where
  number : ℕ → Value
  numbers : List ℕ → Value
  wholes : List Whole → Value
  bytes : Bytes → Value
  answer : Answer → Value
  replies : List Answer → Value
  commands : List Command → Value
  shown : Shown → Value
  upload : Upload → Value
  model : Model → Value
  reads : Message → Value

pub record Case : Type 0 where
  pub given : Value
  pub expected : Value

infix 3 ◌is◌
abbrev pub ◌is◌ : Value → Value → Case
a is b = record { given = a; expected = b }

-- every case gives what is expected
abbrev pub Hold : List Case → Type 0
Hold cases = map (λ (c : Case). c.given) cases ≡ map (λ (c : Case). c.expected) cases

-- ---- what is read at many places is computed once

-- a list, computed before it is handed on
abbrev pub handed : {A B : Type 0} → List A → (List A → B) → B
handed [] on = on []
handed (a ∷ rest) on = handed rest (λ l. on (a ∷ l))

handed_is : {A B : Type 0} (l : List A) (on : List A → B) → handed l on ≡ on l
handed_is [] on = refl
handed_is (a ∷ rest) on = handed_is rest (λ l. on (a ∷ l))

-- a model likewise
abbrev handed_model : {B : Type 0} → Model → (Model → B) → B
handed_model m on = handed m.uploads (λ (us : List Upload). handed m.shown.plans (λ (ps : List Plan). on (record { shown = record { plans = ps; current = m.shown.current; begun = m.shown.begun; counts = m.shown.counts; home = m.shown.home }; uploads = us })))

handed_model_is : {B : Type 0} (m : Model) (on : Model → B) → handed_model m on ≡ on m
handed_model_is m on =
    handed_is m.uploads (λ (us : List Upload). handed m.shown.plans (λ (ps : List Plan). on (record { shown = record { plans = ps; current = m.shown.current; begun = m.shown.begun; counts = m.shown.counts; home = m.shown.home }; uploads = us })))
    ∙ handed_is m.shown.plans (λ (ps : List Plan). on (record { shown = record { plans = ps; current = m.shown.current; begun = m.shown.begun; counts = m.shown.counts; home = m.shown.home }; uploads = m.uploads }))

-- ---- stations and calls: the vehicle is 1/1

abbrev pub vehicle : Station
vehicle = station 1 1

abbrev pub tablet : Station
tablet = station 255 190

abbrev pub neighbour : Station
neighbour = station 254 190

abbrev pub sends : (from : Station) (clock id : ℕ) → Bytes → Call
sends from clock id payload = handed payload (λ (p : Bytes). message vehicle from id p clock store_words reply_bytes_min)

abbrev pub sends_count : (from : Station) (clock kind n : ℕ) → Call
sends_count from clock kind n = sends from clock count_id (encode (count vehicle n kind 0))

abbrev pub sends_part : (from : Station) (clock kind start end : ℕ) → Call
sends_part from clock kind start end = sends from clock partial_list_id (encode (partial_list vehicle start end kind))

abbrev pub sends_item : (from : Station) (clock : ℕ) → Item → Call
sends_item from clock item = sends from clock item_int_id (encode (item_int vehicle 0 item))

abbrev pub sends_ack : (from : Station) (kind result : ℕ) → Call
sends_ack from kind result = sends from 0 ack_id (encode (ack vehicle result kind 0))

abbrev pub sends_clear : (from : Station) (kind : ℕ) → Call
sends_clear from kind = sends from 0 clear_all_id (encode (clear_all vehicle kind))

abbrev pub asks_for_list : (from : Station) (kind : ℕ) → Call
asks_for_list from kind = sends from 0 request_list_id (encode (request_list vehicle kind))

abbrev pub asks_for_item : (from : Station) (kind seq : ℕ) → Call
asks_for_item from kind seq = sends from 0 request_int_id (encode (request_int vehicle seq kind))

abbrev pub sets_current : (from : Station) (seq : ℕ) → Call
sets_current from seq = sends from 0 set_current_id (encode (set_current vehicle seq))

abbrev pub ticks : (clock kind : ℕ) → Call
ticks clock kind = timer kind clock store_words reply_bytes_min

abbrev pub finishes : Call
finishes = done store_words

-- the answer to a call after a list of calls
abbrev pub after : Model → List Call → Call → Answer
after m calls c = handed_model (run m calls) (λ (n : Model). (step n c).answer)

-- so `sends` and `after` say no more than these
sends_is : (from : Station) (clock id : ℕ) (payload : Bytes) → sends from clock id payload ≡ message vehicle from id payload clock store_words reply_bytes_min
sends_is from clock id payload = handed_is payload (λ (p : Bytes). message vehicle from id p clock store_words reply_bytes_min)

after_is : (m : Model) (calls : List Call) (c : Call) → after m calls c ≡ (step (run m calls) c).answer
after_is m calls c = handed_model_is (run m calls) (λ (n : Model). (step n c).answer)

-- the answers to a list of "command done" calls
abbrev pub ordered : Model → List Call → List Command
ordered m calls = map command_in (answers m calls)

-- ---- items

-- the patterns of some floats
abbrev pub f1 : ℕ
f1 = 0x3f800000

abbrev pub f2 : ℕ
f2 = 0x40000000

abbrev pub f3 : ℕ
f3 = 0x40400000

abbrev pub f4 : ℕ
f4 = 0x40800000

abbrev pub f_na_n : ℕ
f_na_n = 0x7fc00001

abbrev pub f_minus_zero : ℕ
f_minus_zero = 0x80000000

abbrev pub f_minus_one : ℕ
f_minus_one = 0xbf800000

-- all that is judged of an item
abbrev pub item_with : (kind command seq frame param1 param2 x y z : ℕ) → Item
item_with kind command seq frame param1 param2 x y z =
    record {
      param1 = param1;
      param2 = param2;
      param3 = 0;
      param4 = 0;
      x = x;
      y = y;
      z = z;
      seq = seq;
      command = command;
      frame = frame;
      autocontinue = 1;
      kind = kind;
    }

-- in frame 3, with y and z 0
abbrev pub item_as : (kind command seq param1 param2 x : ℕ) → Item
item_as kind command seq param1 param2 x = item_with kind command seq 3 param1 param2 x 0 0

abbrev pub waypoint : (seq : ℕ) → Item
waypoint seq = item_as flight 16 seq 0 0 0

abbrev pub takeoff : (seq : ℕ) → Item
takeoff seq = item_as flight 22 seq 0 0 0

abbrev pub land : (seq : ℕ) → Item
land seq = item_as flight 21 seq 0 0 0

abbrev pub jump_to : (seq target repeat : ℕ) → Item
jump_to seq target repeat = item_as flight 177 seq target repeat 0

abbrev pub vertex : (seq m : ℕ) → Item
vertex seq m = item_as fence 5001 seq m 0 0

abbrev pub circle : (seq : ℕ) → Item
circle seq = item_as fence 5003 seq f1 0 0

-- ---- models

abbrev pub plan_with : List Item → ℕ → Plan
plan_with items n = record { items = map item_of items; number = n }

-- what is shown with these plans, without the setting; nothing begun
abbrev pub plans_of : Plan → Plan → Plan → Shown
plans_of a b c = record { plans = a ∷ b ∷ c ∷ []; current = 0; begun = false; counts = replicate 15 0; home = false }

-- no upload runs
abbrev pub resting : Shown → Model
resting s = record { shown = s; uploads = idle ∷ idle ∷ idle ∷ [] }

-- the fresh model without the setting, but for the flight plan and its number
abbrev pub with_flight : List Item → ℕ → Model
with_flight items n = resting (plans_of (plan_with items n) (plan_with [] 0) (plan_with [] 0))

-- two waypoints are stored, the first is begun, and one jump count is not 0
abbrev pub flying : Model
flying =
    resting (record { plans = plan_with (waypoint 0 ∷ waypoint 1 ∷ []) 3 ∷ plan_with [] 0 ∷ plan_with [] 0 ∷ []; current = 0; begun = true; counts = 9 ∷ replicate 14 0; home = false })

-- ---- uploads and their answers

-- the tablet announces n items of a kind and sends these
abbrev pub uploads : (kind n : ℕ) → List Item → List Call
uploads kind n items = sends_count tablet 0 kind n ∷ map (λ (i : Item). sends_item tablet 0 i) items

-- the tablet announces one item of a kind, without the setting: the answer to it
abbrev pub judges : (kind : ℕ) → Item → Answer
judges kind item = after (fresh false) (uploads kind 1 []) (sends_item tablet 0 item)

abbrev pub verdict : (result kind : ℕ) → Answer
verdict result kind = says (ack tablet result kind 0)
