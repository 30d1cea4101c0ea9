-- Cases that guard the rules' own numbers and texts, each written out: what is written, whose an upload is, how an upload goes on and ends,
-- what stands after it, and the answers of "command done". One table, and one statement: every case holds.
use Rattle.std.specs.Prelude.{ℕ, List, [], ◌∷◌, ◌++◌, true, false, replicate, pos, negsuc}
use Rattle.std.specs.Float.{fin}
use Rattle.rules.specs.Limits.{flight, fence, rally, store_words, reply_bytes_min}
use Rattle.rules.specs.Payload.{Bytes}
use Rattle.rules.specs.Layouts.{request_list_id}
use Rattle.rules.specs.Messages.{Station, station, Item, current, count, ack, request_int, statustext}
use Rattle.rules.specs.Model.{whole_task, Model, Shown, Upload, idle, running, fresh, upload_of}
use Rattle.rules.specs.NextCommand.{fly, wait, near, turn, speed, servo, finished, stuck}
use Rattle.rules.specs.Calls.{message}
use Rattle.rules.specs.Step.{Answer, refused, silent, says, run, answers, reply_bytes}
use Rattle.rules.specs.Cases.{Case, numbers, bytes, answer, replies, commands, shown, upload, model, ◌is◌, tablet, sends_count, sends_item, sends_ack, sends_clear, asks_for_list, sets_current, ticks, finishes, after, ordered, f1, f2, f3, f4, f_minus_one, item_as, waypoint, jump_to, vertex, circle, plan_with, resting, with_flight, flying, uploads, judges, verdict}

-- ---- what the cases start from

-- "no such mission item" and zeros, 50 characters
abbrev text : Bytes
text =
    110 ∷ 111 ∷ 32 ∷ 115 ∷ 117 ∷ 99 ∷ 104 ∷ 32 ∷ 109 ∷ 105 ∷ 115 ∷ 115 ∷ 105 ∷ 111 ∷ 110 ∷ 32 ∷ 105 ∷ 116 ∷ 101 ∷ 109
    ∷ 0 ∷ 0 ∷ 0 ∷ 0 ∷ 0 ∷ 0 ∷ 0 ∷ 0 ∷ 0 ∷ 0 ∷ 0 ∷ 0 ∷ 0 ∷ 0 ∷ 0 ∷ 0 ∷ 0 ∷ 0 ∷ 0 ∷ 0 ∷ 0 ∷ 0 ∷ 0 ∷ 0 ∷ 0 ∷ 0 ∷ 0 ∷ 0 ∷ 0 ∷ 0 ∷ []

abbrev no_runs : List ℕ
no_runs = 0 ∷ 0 ∷ 0 ∷ 0 ∷ 0 ∷ 0 ∷ 0 ∷ 0 ∷ 0 ∷ 0 ∷ 0 ∷ 0 ∷ 0 ∷ 0 ∷ 0 ∷ []

-- the stored bytes of the waypoint and of the circle with this number
abbrev stored_waypoint : (seq : ℕ) → Bytes
stored_waypoint seq = replicate 28 0 ++ (seq ∷ 0 ∷ 16 ∷ 0 ∷ 0 ∷ 0 ∷ 3 ∷ 0 ∷ 1 ∷ 0 ∷ [])

abbrev stored_circle : (seq : ℕ) → Bytes
stored_circle seq = 0 ∷ 0 ∷ 0x80 ∷ 0x3f ∷ replicate 24 0 ++ (seq ∷ 0 ∷ 0x8b ∷ 0x13 ∷ 0 ∷ 0 ∷ 3 ∷ 0 ∷ 1 ∷ 1 ∷ [])

abbrev rally_point : (seq : ℕ) → Item
rally_point seq = item_as rally 5100 seq 0 0 0

abbrev return_point : (seq : ℕ) → Item
return_point seq = item_as fence 5000 seq 0 0 0

-- each kind has a plan with a number of its own, item 1 is begun, and two jump counts are not 0
abbrev loaded : Shown
loaded =
    record {
      plans = plan_with (waypoint 0 ∷ waypoint 1 ∷ []) 3 ∷ plan_with (circle 0 ∷ []) 0x01020304 ∷ plan_with (rally_point 0 ∷ []) 7 ∷ [];
      current = 1;
      begun = true;
      counts = 9 ∷ 8 ∷ replicate 13 0;
      home = false;
    }

-- the tablet uploads three items of fence, and the first is taken
abbrev fence_run : (started repeats : ℕ) → Upload
fence_run started repeats = running (record { station = tablet; task = whole_task 3; next = 1; taken = stored_circle 0 ∷ []; started = started; repeats = repeats })

abbrev replacing : (started repeats : ℕ) → Model
replacing started repeats = record { shown = loaded; uploads = idle ∷ fence_run started repeats ∷ idle ∷ [] }

-- a station that differs from the tablet in its component alone
abbrev camera : Station
camera = station 255 191

-- REQUEST_LIST of flight to a system and a component, on a vehicle with these own numbers
abbrev hears : (own : Station) (system component : ℕ) → Answer
hears own system component = after (fresh false) [] (message own tablet request_list_id (system ∷ component ∷ []) 0 store_words reply_bytes_min)

-- jumps that are passed over, to item `target`
abbrev passed : (n target : ℕ) → List Item
passed n target = replicate n (jump_to 0 target 0)

abbrev pub guards : List Case
guards =
    -- the refusal's text and severity: the payload, and the message with its 50 characters
    (bytes (reply_bytes (after (fresh false) [] (sets_current tablet 0)))
    is bytes (0x04 ∷ 0x6e ∷ 0x6f ∷ 0x20 ∷ 0x73 ∷ 0x75 ∷ 0x63 ∷ 0x68 ∷ 0x20 ∷ 0x6d ∷ 0x69 ∷ 0x73 ∷ 0x73 ∷ 0x69 ∷ 0x6f ∷ 0x6e ∷ 0x20 ∷ 0x69 ∷ 0x74 ∷ 0x65 ∷ 0x6d ∷ []))
    ∷ (answer (after flying [] (sets_current tablet 2)) is answer (says (statustext 4 text 0 0)))
    -- CURRENT has the number of each kind's plan in its own place, and 0 for an empty plan
    ∷ (answer (after (resting loaded) [] (sets_current tablet 1)) is answer (says (current 1 2 0 0 3 16909060 7)))
    ∷ (bytes (reply_bytes (after (resting loaded) [] (sets_current tablet 1)))
    is bytes (0x01 ∷ 0x00 ∷ 0x02 ∷ 0x00 ∷ 0x00 ∷ 0x00 ∷ 0x03 ∷ 0x00 ∷ 0x00 ∷ 0x00 ∷ 0x04 ∷ 0x03 ∷ 0x02 ∷ 0x01 ∷ 0x07 ∷ []))
    ∷ (answer (after (resting loaded) (sends_clear tablet fence ∷ []) (sets_current tablet 0)) is answer (says (current 0 2 0 0 3 0 7)))
    -- a station that differs in the component alone is another one: its COUNT, item and clear are denied, and its ACK ends nothing
    ∷ (replies (answers (replacing 100 0) (sends_count camera 0 fence 1 ∷ sends_item camera 0 (circle 1) ∷ sends_clear camera fence ∷ sends_ack camera fence 1 ∷ []))
    is replies (says (ack (station 255 191) 14 1 0) ∷ says (ack (station 255 191) 14 1 0) ∷ says (ack (station 255 191) 14 1 0) ∷ silent ∷ []))
    ∷ (upload (upload_of (run (replacing 100 0) (sends_count camera 0 fence 1 ∷ sends_item camera 0 (circle 1) ∷ sends_clear camera fence ∷ sends_ack camera fence 1 ∷ [])) fence)
    is upload (fence_run 100 0))
    -- own system and component are judged, each: 1/2 and 2/1 are not 1/1
    ∷ (answer (hears (station 1 2) 1 1) is answer (refused 13))
    ∷ (answer (hears (station 2 1) 1 1) is answer (refused 13))
    ∷ (answer (hears (station 1 2) 1 2) is answer (says (count tablet 0 0 0)))
    ∷ (answer (hears (station 2 1) 2 0) is answer (says (count tablet 0 0 0)))
    -- repeats are 0 after a taken item: five requests again, and the sixth expiry ends the upload
    ∷ (upload (upload_of (run (replacing 100 5) (sends_item tablet 200 (circle 1) ∷ [])) fence)
    is upload (running (record { station = tablet; task = whole_task 3; next = 2; taken = stored_circle 0 ∷ stored_circle 1 ∷ []; started = 200; repeats = 0 })))
    ∷ (replies (answers (replacing 100 5) (sends_item tablet 200 (circle 1) ∷ ticks 450 fence ∷ ticks 700 fence ∷ ticks 950 fence ∷ ticks 1200 fence ∷ ticks 1450 fence ∷ ticks 1699 fence ∷ ticks 1700 fence ∷ ticks 1950 fence ∷ []))
    is replies (says (request_int tablet 2 1) ∷ says (request_int tablet 2 1) ∷ says (request_int tablet 2 1) ∷ says (request_int tablet 2 1) ∷ says (request_int tablet 2 1) ∷ says (request_int tablet 2 1) ∷ silent ∷ says (ack tablet 15 1 0) ∷ silent ∷ []))
    -- ACK 15 has number 0 on a plan that has a number, and so has an ACK with a reason; the plan stands
    ∷ (answer (after (replacing 100 5) [] (ticks 350 fence)) is answer (says (ack tablet 15 1 0)))
    ∷ (bytes (reply_bytes (after (replacing 100 5) [] (ticks 350 fence))) is bytes (0xff ∷ 0xbe ∷ 0x0f ∷ 0x01 ∷ []))
    ∷ (answer (after (replacing 100 0) [] (sends_item tablet 0 (vertex 1 f2))) is answer (says (ack tablet 6 1 0)))
    ∷ (answer (after (replacing 100 5) (ticks 350 fence ∷ []) (asks_for_list tablet fence)) is answer (says (count tablet 1 1 16909060)))
    -- an emptied plan is listed with number 0, and its number goes on with the next upload
    ∷ (answer (after flying (sends_clear tablet flight ∷ []) (asks_for_list tablet flight)) is answer (says (count tablet 0 0 0)))
    ∷ (answer (after flying (sends_clear tablet flight ∷ uploads flight 1 (waypoint 0 ∷ [])) (asks_for_list tablet flight)) is answer (says (count tablet 1 0 4)))
    -- CLEAR_ALL of every kind: no plan, upload or progress is left, and the numbers are kept
    ∷ (answer (after (replacing 100 0) [] (sends_clear tablet 255)) is answer (says (ack tablet 0 255 0)))
    ∷ (model (run (replacing 100 0) (sends_count tablet 0 rally 1 ∷ sends_clear tablet 255 ∷ []))
    is model
    (record {
      shown =
          record {
            plans = record { items = []; number = 3 } ∷ record { items = []; number = 16909060 } ∷ record { items = []; number = 7 } ∷ [];
            current = 0;
            begun = false;
            counts = no_runs;
            home = false;
          };
      uploads = idle ∷ idle ∷ idle ∷ [];
    }))
    -- SET_CURRENT keeps the counts, and a replacement of the flight plan makes item 0 current, not begun, with counts 0
    ∷ (shown (run flying (sets_current tablet 1 ∷ [])).shown
    is shown
    (record {
      plans = record { items = stored_waypoint 0 ∷ stored_waypoint 1 ∷ []; number = 3 } ∷ record { items = []; number = 0 } ∷ record { items = []; number = 0 } ∷ [];
      current = 1;
      begun = false;
      counts = 9 ∷ replicate 14 0;
      home = false;
    }))
    ∷ (shown (run flying (sets_current tablet 1 ∷ finishes ∷ uploads flight 1 (waypoint 0 ∷ []))).shown
    is shown
    (record {
      plans = record { items = stored_waypoint 0 ∷ []; number = 4 } ∷ record { items = []; number = 0 } ∷ record { items = []; number = 0 } ∷ [];
      current = 0;
      begun = false;
      counts = no_runs;
      home = false;
    }))
    -- a run whose command changes, whose param 1 changes or that another item parts is 5; the old fence stands
    ∷ (answer (after (fresh false) (uploads fence 3 (vertex 0 f3 ∷ vertex 1 f3 ∷ [])) (sends_item tablet 0 (item_as fence 5002 2 f3 0 0))) is answer (verdict 5 1))
    ∷ (answer (after (fresh false) (uploads fence 3 (vertex 0 f3 ∷ vertex 1 f3 ∷ [])) (sends_item tablet 0 (vertex 2 f4))) is answer (verdict 5 1))
    ∷ (answer (after (fresh false) (uploads fence 4 (vertex 0 f3 ∷ vertex 1 f3 ∷ circle 2 ∷ [])) (sends_item tablet 0 (vertex 3 f3))) is answer (verdict 5 1))
    ∷ (answer (after (fresh false) (uploads fence 3 (vertex 0 f3 ∷ vertex 1 f3 ∷ [])) (sends_item tablet 0 (vertex 2 f3))) is answer (says (ack tablet 0 1 1)))
    ∷ (answer (after (replacing 100 0) (sends_item tablet 0 (vertex 1 f3) ∷ sends_item tablet 0 (vertex 2 f3) ∷ []) (asks_for_list tablet fence)) is answer (says (count tablet 1 1 16909060)))
    -- one return point is valid, two are 5
    ∷ (answer (judges fence (return_point 0)) is answer (says (ack tablet 0 1 1)))
    ∷ (answer (after (fresh false) (uploads fence 2 (return_point 0 ∷ [])) (sends_item tablet 0 (return_point 1))) is answer (verdict 5 1))
    -- Wait 2.5 seconds, Near 10 metres, Turn by 90 degrees, Speed 7.5 and -1.5, Servo 5 at 1500
    ∷ (commands
    (ordered
    (with_flight (item_as flight 112 0 0x40200000 0 0 ∷ item_as flight 114 1 0x41200000 0 0 ∷ item_as flight 115 2 0x42b40000 0 0 ∷ item_as flight 178 3 0 0x40f00000 0 ∷ item_as flight 178 4 0 0xbfc00000 0 ∷ item_as flight 183 5 0x40a00000 0x44bb8000 0 ∷ []) 1)
    (finishes ∷ finishes ∷ finishes ∷ finishes ∷ finishes ∷ finishes ∷ finishes ∷ []))
    is commands (wait 0 (fin false 5 (negsuc 0)) ∷ near 1 (fin false 5 (pos 1)) ∷ turn 2 (fin false 45 (pos 1)) ∷ speed 3 (fin false 15 (negsuc 0)) ∷ speed 4 (fin true 3 (negsuc 0)) ∷ servo 5 5 1500 ∷ finished ∷ []))
    -- fifteen jumps are passed over, a sixteenth is Stuck
    ∷ (commands (ordered (with_flight (passed 15 0x41700000 ++ (waypoint 15 ∷ [])) 1) (finishes ∷ [])) is commands (fly 15 ∷ []))
    ∷ (commands (ordered (with_flight (passed 16 0x41800000 ++ (waypoint 16 ∷ [])) 1) (finishes ∷ [])) is commands (stuck ∷ []))
    -- a jump's runs are counted at its own place among the jumps, and not where its repeat is -1
    ∷ (numbers (run (with_flight (jump_to 0 f2 0 ∷ jump_to 1 f3 f1 ∷ waypoint 2 ∷ waypoint 3 ∷ []) 1) (finishes ∷ [])).shown.counts
    is numbers (0 ∷ 1 ∷ 0 ∷ 0 ∷ 0 ∷ 0 ∷ 0 ∷ 0 ∷ 0 ∷ 0 ∷ 0 ∷ 0 ∷ 0 ∷ 0 ∷ 0 ∷ []))
    ∷ (commands (ordered (with_flight (jump_to 0 f2 f_minus_one ∷ waypoint 1 ∷ waypoint 2 ∷ []) 1) (finishes ∷ [])) is commands (fly 2 ∷ []))
    ∷ (numbers (run (with_flight (jump_to 0 f2 f_minus_one ∷ waypoint 1 ∷ waypoint 2 ∷ []) 1) (finishes ∷ [])).shown.counts is numbers no_runs)
    ∷ []
