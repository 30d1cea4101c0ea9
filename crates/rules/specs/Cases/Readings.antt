-- Cases that guard the rules against a misreading: places of document 01 that are easily read wrong, every closing event of an upload,
-- and one upload among other traffic. One table, and one statement: every case holds.
use Rattle.std.specs.Prelude.{ℕ, ◌+◌, ◌^◌, List, [], ◌∷◌, true, false, replicate}
use Rattle.rules.specs.Limits.{flight, fence, rally, every_kind, store_words, reply_bytes_min}
use Rattle.rules.specs.Payload.{Bytes, trim}
use Rattle.rules.specs.Layouts.{current_id, count_id, clear_all_id, ack_id, request_int_id, statustext_id}
use Rattle.rules.specs.Messages.{station, count, ack, current, request_int, item_int, item_of}
use Rattle.rules.specs.Model.{Model, whole_task, Upload, idle, running, fresh, upload_of, elapsed}
use Rattle.rules.specs.Calls.{Call, message, timer, done}
use Rattle.rules.specs.Step.{refused, silent, says, refusal_text, run, reply_bytes}
use Rattle.rules.specs.Cases.{Case, number, bytes, answer, shown, upload, model, ◌is◌, vehicle, tablet, neighbour, sends, sends_count, sends_item, sends_ack, sends_clear, asks_for_list, asks_for_item, sets_current, ticks, finishes, after, f2, f3, f4, f_na_n, f_minus_zero, f_minus_one, item_as, waypoint, jump_to, vertex, circle, plan_with, plans_of, flying, uploads, judges, verdict}

-- ---- what the cases start from

-- the tablet uploads two fence items, the first is taken
abbrev fencing_run : (started repeats : ℕ) → Upload
fencing_run started repeats = running (record { station = tablet; task = whole_task 2; next = 1; taken = item_of (circle 0) ∷ []; started = started; repeats = repeats })

abbrev fencing_at : (started repeats : ℕ) → Model
fencing_at started repeats = record { shown = flying.shown; uploads = idle ∷ fencing_run started repeats ∷ idle ∷ [] }

-- as two calls of the tablet leave it
abbrev fencing : Model
fencing = fencing_at 120 0

-- a number of the state is out of its range: one jump count
abbrev unranged : Model
unranged = record { shown = record { plans = flying.shown.plans; current = 0; begun = true; counts = 32768 ∷ []; home = false }; uploads = flying.uploads }

-- the tablet uploads 17 flight items, and the fifteen taken are jumps
abbrev jumping : Model
jumping =
    record {
      shown = (fresh false).shown;
      uploads = running (record { station = tablet; task = whole_task 17; next = 15; taken = replicate 15 (item_of (jump_to 1 0 0)); started = 0; repeats = 0 }) ∷ idle ∷ idle ∷ [];
    }

-- a message call with other lengths than the least
abbrev lent : (store reply id : ℕ) → Bytes → Call
lent store reply id payload = message vehicle tablet id payload 0 store reply

-- an upload of two fence items by the tablet among other traffic: an item out of turn, another station's item, an expiry, a late ACK of
-- another kind, an accepted ACK, another station's COUNT, a refused COUNT, a denied clear of every kind
abbrev among_traffic : List Call
among_traffic =
    sends_count tablet 100 fence 2
    ∷ sends_item tablet 110 (circle 1)
    ∷ sends_item neighbour 115 (circle 0)
    ∷ sends_item tablet 120 (circle 0)
    ∷ sends_item tablet 130 (vertex 0 f3)
    ∷ ticks 380 fence
    ∷ sends_ack tablet flight 1
    ∷ sends_ack tablet fence 0
    ∷ sends_ack neighbour fence 1
    ∷ sends_count neighbour 390 fence 0
    ∷ message vehicle tablet count_id (0x00 ∷ 0x00 ∷ 0x09 ∷ 0x01 ∷ 0x01 ∷ []) 395 store_words reply_bytes_min
    ∷ sends_clear neighbour every_kind
    ∷ finishes
    ∷ sends_item tablet 400 (circle 1)
    ∷ []

abbrev pub readings : List Case
readings =
    -- a COUNT and its first item start an upload, and what is shown stays
    (model (run flying (sends_count tablet 100 fence 2 ∷ sends_item tablet 120 (circle 0) ∷ [])) is model fencing)
    -- the order of refusals: 14, 15, 10, 11, 12, 13
    ∷ (answer (after unranged [] (lent 5631 53 ack_id [])) is answer (refused 14))
    ∷ (answer (after unranged [] (lent 5632 53 ack_id [])) is answer (refused 15))
    ∷ (answer (after (fresh false) [] (lent 5632 53 ack_id [])) is answer (refused 10))
    ∷ (answer (after (fresh false) [] (lent 5632 54 42 [])) is answer (refused 11))
    ∷ (answer (after (fresh false) [] (lent 5632 54 current_id (0 ∷ 0 ∷ 9 ∷ 9 ∷ []))) is answer (refused 12))
    ∷ (answer (after (fresh false) [] (lent 5632 54 statustext_id (0 ∷ []))) is answer (refused 12))
    ∷ (answer (after (fresh false) [] (lent 5632 54 300 (0 ∷ []))) is answer (refused 12))
    ∷ (answer (after (fresh false) [] (timer 3 0 5632 53)) is answer (refused 10))
    ∷ (answer (after (fresh false) [] (timer 3 0 5632 54)) is answer (refused 12))
    ∷ (answer (after unranged [] (done 5632)) is answer (refused 15))
    ∷ (answer (after unranged [] (done 5631)) is answer (refused 14))
    -- system and component are judged apart; missing target bytes are 0
    ∷ (answer (after (fresh false) [] (sends tablet 0 request_int_id (0 ∷ 0 ∷ 0 ∷ 9 ∷ []))) is answer (refused 13))
    ∷ (answer (after (fresh false) [] (sends tablet 0 request_int_id (0 ∷ 0 ∷ 9 ∷ []))) is answer (refused 13))
    ∷ (answer (after (fresh false) [] (sends tablet 0 request_int_id (5 ∷ []))) is answer (verdict 13 0))
    -- the kind of a short payload is 0, whatever its last byte is: the neighbour's fence stays, the flight plan is emptied
    ∷ (answer (after flying (sends_count neighbour 0 fence 1 ∷ []) (sends tablet 0 clear_all_id (1 ∷ 1 ∷ []))) is answer (verdict 0 0))
    -- a refused COUNT, CLEAR_ALL or ACK ends nothing
    ∷ (upload (upload_of (run fencing (sends tablet 0 count_id (0 ∷ 0 ∷ 9 ∷ 1 ∷ 1 ∷ []) ∷ sends tablet 0 clear_all_id (9 ∷ 1 ∷ 1 ∷ []) ∷ sends tablet 0 ack_id (9 ∷ 1 ∷ 1 ∷ 1 ∷ []) ∷ [])) fence)
    is upload (fencing_run 120 0))
    -- kind first: COUNT of kind 7 or 255 gets ACK 3 with that kind, and ends no upload; an ACK of any kind gets no reply
    ∷ (answer (after fencing [] (sends_count tablet 0 7 1)) is answer (verdict 3 7))
    ∷ (answer (after fencing [] (sends_count tablet 0 255 1)) is answer (verdict 3 255))
    ∷ (upload (upload_of (run fencing (sends_count tablet 0 7 0 ∷ [])) fence) is upload (fencing_run 120 0))
    ∷ (answer (after fencing [] (sends_ack tablet 9 1)) is answer silent)
    ∷ (answer (after fencing [] (sends_ack tablet fence 1)) is answer silent)
    -- COUNT above the size from the uploading station: its upload ends, the plan stands; from another station it is denied first
    ∷ (upload (upload_of (run fencing (sends_count tablet 0 fence 65 ∷ [])) fence) is upload idle)
    ∷ (answer (after fencing [] (sends_count neighbour 0 fence 65)) is answer (says (ack neighbour 14 1 0)))
    ∷ (upload (upload_of (run fencing (sends_count neighbour 0 fence 1 ∷ [])) fence) is upload (fencing_run 120 0))
    -- a nonzero COUNT leaves the old plan as it is; COUNT 0 empties it, and ACK 0 carries no plan number
    ∷ (shown (run flying (sends_count tablet 0 flight 2 ∷ [])).shown is shown flying.shown)
    ∷ (answer (after flying [] (sends_count tablet 0 flight 0)) is answer (verdict 0 0))
    ∷ (shown (run flying (sends_count tablet 0 flight 2 ∷ sends_count tablet 0 flight 0 ∷ [])).shown is shown (plans_of (plan_with [] 3) (plan_with [] 0) (plan_with [] 0)))
    -- the count of plan numbers goes on after an empty plan
    ∷ (answer (after flying (sends_count tablet 0 flight 0 ∷ sends_count tablet 0 flight 1 ∷ []) (sends_item tablet 0 (waypoint 0))) is answer (says (ack tablet 0 0 4)))
    -- CLEAR_ALL 255 is answered with kind 255; one foreign upload denies all of it, and the sender's own uploads go on
    ∷ (answer (after fencing [] (sends_clear tablet 255)) is answer (verdict 0 255))
    ∷ (answer (after fencing [] (sends_clear neighbour 255)) is answer (says (ack neighbour 14 255 0)))
    ∷ (upload (upload_of (run fencing (sends_count neighbour 5 rally 1 ∷ sends_clear neighbour 255 ∷ [])) rally)
    is upload (running (record { station = neighbour; task = whole_task 1; next = 0; taken = []; started = 5; repeats = 0 })))
    -- emptying the fence resets no progress of the flight
    ∷ (shown (run fencing (sends_clear tablet fence ∷ [])).shown is shown flying.shown)
    -- an item: before any upload; of another station; out of turn before it is judged; late, but before a timer call
    ∷ (answer (after fencing [] (sends_item tablet 0 (waypoint 0))) is answer (verdict 13 0))
    ∷ (answer (after fencing [] (sends_item neighbour 0 (circle 1))) is answer (says (ack neighbour 14 1 0)))
    ∷ (answer (after fencing [] (sends_item tablet 0 (item_as fence 999 0 0 0 0))) is answer (says (request_int tablet 1 1)))
    ∷ (upload (upload_of (run fencing (sends_item tablet 0 (item_as fence 999 0 0 0 0) ∷ [])) fence) is upload (fencing_run 120 0))
    ∷ (answer (after fencing [] (sends_item tablet 9999 (circle 1))) is answer (says (ack tablet 0 1 1)))
    -- the last item sent again after the plan was replaced
    ∷ (answer (after fencing (sends_item tablet 130 (circle 1) ∷ []) (sends_item tablet 140 (circle 1))) is answer (verdict 13 1))
    -- closing events: COUNT of its kind from its station, an allowed clear, an expected invalid item, a last item whose fence fails, a
    -- nonzero ACK (255 too), the sixth expiry
    ∷ (upload (upload_of (run fencing (sends_count tablet 0 fence 0 ∷ [])) fence) is upload idle)
    ∷ (upload (upload_of (run fencing (sends_clear tablet fence ∷ [])) fence) is upload idle)
    ∷ (upload (upload_of (run fencing (sends_item tablet 0 (waypoint 1) ∷ sends_item tablet 0 (item_as fence 16 1 0 0 0) ∷ [])) fence) is upload idle)
    ∷ (upload (upload_of (run fencing (sends_item tablet 0 (vertex 1 f3) ∷ [])) fence) is upload idle)
    ∷ (upload (upload_of (run fencing (sends_ack tablet fence 255 ∷ [])) fence) is upload idle)
    ∷ (upload (upload_of (run fencing (sends_ack tablet fence 0 ∷ sends_ack neighbour fence 1 ∷ sends_ack tablet flight 1 ∷ [])) fence) is upload (fencing_run 120 0))
    ∷ (upload (upload_of (run (fencing_at 1120 4) (ticks 1370 fence ∷ [])) fence) is upload (fencing_run 1370 5))
    ∷ (answer (after (fencing_at 1370 5) [] (ticks 1619 fence)) is answer silent)
    ∷ (answer (after (fencing_at 1370 5) [] (ticks 1620 fence)) is answer (verdict 15 1))
    ∷ (upload (upload_of (run (fencing_at 1370 5) (ticks 1620 fence ∷ [])) fence) is upload idle)
    -- one timer call makes at most one repeat, and the timer restarts at its clock
    ∷ (upload (upload_of (run fencing (ticks 5000 fence ∷ [])) fence) is upload (fencing_run 5000 1))
    ∷ (number (elapsed (2 ^ 31) 1) is number 2147483647)
    ∷ (number (elapsed (2 ^ 31 + 1) 1) is number 0)
    -- the order of an item's faults; a fault of its own comes before the fence's
    ∷ (answer (judges flight (item_as flight 30 0 0 0 0)) is answer (verdict 3 0))
    ∷ (answer (judges flight (item_as flight 5001 0 f3 0 0)) is answer (verdict 3 0))
    ∷ (answer (judges flight (item_as flight 16 0 f_na_n 0 900000001)) is answer (verdict 6 0))
    ∷ (answer (judges flight (item_as flight 17 0 f_na_n 0 900000001)) is answer (verdict 10 0))
    ∷ (answer (judges flight (item_as flight 115 0 f_na_n 0 900000001)) is answer (verdict 6 0))
    ∷ (answer (judges flight (item_as flight 178 0 0 f_na_n 900000001)) is answer (verdict 7 0))
    ∷ (answer (after fencing [] (sends_item tablet 0 (vertex 1 f2))) is answer (verdict 6 1))
    ∷ (answer (after fencing [] (sends_item tablet 0 (vertex 1 f3))) is answer (verdict 5 1))
    -- minus zero is at least 0, is whole and is 0, and is not above 0; a subnormal is above 0; -2147483648 is outside
    ∷ (answer (judges flight (item_as flight 16 0 f_minus_zero 0 0)) is answer (says (ack tablet 0 0 1)))
    ∷ (answer (after (fresh false) (uploads flight 2 (waypoint 0 ∷ [])) (sends_item tablet 0 (jump_to 1 f_minus_zero f_minus_zero))) is answer (says (ack tablet 0 0 1)))
    ∷ (answer (judges fence (item_as fence 5003 0 f_minus_zero 0 0)) is answer (verdict 6 1))
    ∷ (answer (judges fence (item_as fence 5003 0 1 0 0)) is answer (says (ack tablet 0 1 1)))
    ∷ (answer (judges flight (item_as flight 16 0 0 0 0x80000000)) is answer (verdict 10 0))
    ∷ (answer (judges flight (item_as flight 16 0 0 0 3394967296)) is answer (says (ack tablet 0 0 1)))
    ∷ (answer (judges flight (item_as flight 16 0 0 0 3394967295)) is answer (verdict 10 0))
    -- a jump's target is judged against the upload's count: forward jumps are valid; itself, the count, a fraction and -1 are 6
    ∷ (answer (after flying (uploads flight 4 []) (sends_item tablet 0 (jump_to 0 f3 0))) is answer (says (request_int tablet 1 0)))
    ∷ (answer (after flying (uploads flight 4 []) (sends_item tablet 0 (jump_to 0 f4 0))) is answer (verdict 6 0))
    ∷ (answer (after flying (uploads flight 4 []) (sends_item tablet 0 (jump_to 0 0 0))) is answer (verdict 6 0))
    ∷ (answer (after flying (uploads flight 4 []) (sends_item tablet 0 (jump_to 0 0x3fc00000 0))) is answer (verdict 6 0))
    ∷ (answer (after flying (uploads flight 4 []) (sends_item tablet 0 (jump_to 0 f_minus_one 0))) is answer (verdict 6 0))
    -- a sixteenth jump gets 4, last in the order
    ∷ (answer (after jumping [] (sends_item tablet 0 (jump_to 15 0 0))) is answer (verdict 4 0))
    ∷ (answer (after jumping [] (sends_item tablet 0 (jump_to 15 0 0x3f000000))) is answer (verdict 7 0))
    ∷ (answer (after jumping [] (sends_item tablet 0 (jump_to 15 0 f_na_n))) is answer (verdict 4 0))
    ∷ (answer (after jumping [] (sends_item tablet 0 (waypoint 15))) is answer (says (request_int tablet 16 0)))
    -- REQUEST_LIST and REQUEST_INT show the plan and never a running upload; the current field goes with the current item, begun or not
    ∷ (answer (after fencing [] (asks_for_list tablet fence)) is answer (says (count tablet 0 1 0)))
    ∷ (answer (after fencing [] (asks_for_item tablet fence 0)) is answer (verdict 13 1))
    ∷ (answer (after flying [] (asks_for_item tablet flight 0)) is answer (says (item_int tablet 1 (waypoint 0))))
    ∷ (answer (after flying [] (asks_for_item tablet flight 1)) is answer (says (item_int tablet 0 (waypoint 1))))
    ∷ (answer (after flying (sends_count tablet 0 fence 1 ∷ sends_item tablet 0 (circle 0) ∷ []) (asks_for_item tablet fence 0)) is answer (says (item_int tablet 0 (circle 0))))
    -- SET_CURRENT on the current item makes it not begun and keeps the counts; on an empty plan it gets the text
    ∷ (shown (run flying (sets_current tablet 0 ∷ [])).shown
    is shown (record { plans = flying.shown.plans; current = 0; begun = false; counts = 9 ∷ replicate 14 0; home = false }))
    ∷ (answer (after flying [] (sets_current tablet 1)) is answer (says (current 1 2 0 0 3 0 0)))
    ∷ (answer (after flying [] (sets_current tablet 2)) is answer (says refusal_text))
    ∷ (answer (after (fresh false) [] (sets_current tablet 0)) is answer (says refusal_text))
    -- Finished leaves everything as it was
    ∷ (shown (run flying (finishes ∷ finishes ∷ finishes ∷ [])).shown is shown (run flying (finishes ∷ [])).shown)
    -- trimming keeps one byte
    ∷ (bytes (reply_bytes (after (fresh false) [] (message vehicle (station 0 0) request_int_id (0 ∷ []) 0 store_words reply_bytes_min))) is bytes (0 ∷ 0 ∷ 13 ∷ []))
    ∷ (bytes (trim (0 ∷ 0 ∷ [])) is bytes (0 ∷ []))
    -- an upload among other traffic takes effect at its last item, and not before
    ∷ (upload (upload_of (run (fresh false) among_traffic) fence) is upload idle)
    ∷ (shown (run (fresh false) among_traffic).shown is shown (plans_of (plan_with [] 0) (plan_with (circle 0 ∷ circle 1 ∷ []) 1) (plan_with [] 0)))
    ∷ []
