-- M-108: partial uploads. The request's clauses and both sides of each edge, and the places of it that are easily read wrong. One table, and one statement: every case holds.
use Rattle.std.specs.Prelude.{ℕ, List, [], ◌∷◌, ◌++◌, map, Bool, true, false, replicate}
use Rattle.rules.specs.Limits.{flight, fence, rally}
use Rattle.rules.specs.Messages.{Item, partial_list, count, ack, request_int, item_int, encode, decode, item_of}
use Rattle.rules.specs.Model.{Model, idle, running, upload_of}
use Rattle.rules.specs.Calls.{Call, message}
use Rattle.rules.specs.Step.{Answer, refused, says, run, answers}
use Rattle.rules.specs.Cases.{Case, bytes, answer, replies, shown, upload, model, reads, ◌is◌, vehicle, tablet, neighbour, sends, sends_count, sends_part, sends_item, sends_ack, sends_clear, asks_for_list, asks_for_item, ticks, after, f1, f3, f4, f_minus_one, item_as, waypoint, land, jump_to, vertex, circle, plan_with, resting, verdict}

-- ---- what the cases start from

-- these flight and fence items are stored, with numbers 3 and 7; item 1 is begun, and one jump count is not 0
abbrev stored : List Item → List Item → Model
stored flight_items fence_items =
    resting (record { plans = plan_with flight_items 3 ∷ plan_with fence_items 7 ∷ plan_with [] 0 ∷ []; current = 1; begun = true; counts = 9 ∷ replicate 14 0; home = false })

abbrev triangle : List Item
triangle = vertex 0 f3 ∷ vertex 1 f3 ∷ vertex 2 f3 ∷ []

abbrev flying : Model
flying = stored (waypoint 0 ∷ waypoint 1 ∷ waypoint 2 ∷ []) triangle

-- fifteen jumps between two waypoints
abbrev looping : Model
looping = stored (waypoint 0 ∷ map (λ (n : ℕ). jump_to n 0 0) (1 ∷ 2 ∷ 3 ∷ 4 ∷ 5 ∷ 6 ∷ 7 ∷ 8 ∷ 9 ∷ 10 ∷ 11 ∷ 12 ∷ 13 ∷ 14 ∷ 15 ∷ []) ++ (waypoint 16 ∷ [])) []

-- the tablet announces a part of a kind and sends these
abbrev parts : (kind start end : ℕ) → List Item → List Call
parts kind start end items = sends_part tablet 0 kind start end ∷ map (λ (i : Item). sends_item tablet 0 i) items

-- the flight plan has three items, and an upload of it these numbers
abbrev uploading : (n : ℕ) (partial : Bool) (first last next repeats : ℕ) → Answer
uploading n partial first last next repeats =
    after
    (record {
      shown = flying.shown;
      uploads =
          running (record { station = tablet; task = record { count = n; partial = partial; first = first; last = last }; next = next; taken = []; started = 0; repeats = repeats })
          ∷ idle ∷ idle ∷ [];
    })
    [] (asks_for_list tablet flight)

-- the flight plan is listed: no number is out of its range
abbrev listed : Answer
listed = says (count tablet 3 0 3)

abbrev pub partials : List Case
partials =
    -- the layout: start and end at 0 and 2, system 4, component 5, kind 6; a short payload's missing bytes are 0
    (bytes (encode (partial_list vehicle 513 65535 2)) is bytes (0x01 ∷ 0x02 ∷ 0xff ∷ 0xff ∷ 0x01 ∷ 0x01 ∷ 0x02 ∷ []))
    ∷ (reads (decode 38 (0x01 ∷ 0x02 ∷ 0xff ∷ 0xff ∷ 0x01 ∷ 0x01 ∷ 0x02 ∷ [])) is reads (partial_list vehicle 513 65535 2))
    ∷ (answer (after flying [] (sends tablet 0 38 (0x01 ∷ 0x00 ∷ 0x02 ∷ []))) is answer (says (request_int tablet 1 0)))
    -- refused in the order of the other messages; a kind above 2 is 3
    ∷ (answer (after flying [] (message vehicle tablet 38 [] 0 5632 54)) is answer (refused 11))
    ∷ (answer (after flying [] (sends tablet 0 38 (0x01 ∷ 0x00 ∷ 0x01 ∷ 0x00 ∷ 0x02 ∷ 0x01 ∷ []))) is answer (refused 13))
    ∷ (answer (after flying [] (sends_part tablet 0 3 0 0)) is answer (verdict 3 3))
    ∷ (answer (after flying [] (sends_part tablet 0 255 0 0)) is answer (verdict 3 255))
    -- the first item of the range is requested, and at the last the plan with it replaces the old one: a new number, current item and begun stay, counts 0
    ∷ (answer (after flying [] (sends_part tablet 0 flight 1 1)) is answer (says (request_int tablet 1 0)))
    ∷ (replies (answers flying (parts flight 1 2 (land 1 ∷ land 2 ∷ []))) is replies (says (request_int tablet 1 0) ∷ says (request_int tablet 2 0) ∷ says (ack tablet 0 0 4) ∷ []))
    ∷ (model (run flying (parts flight 1 1 (land 1 ∷ [])))
    is model
    (resting
    (record { plans = plan_with (waypoint 0 ∷ land 1 ∷ waypoint 2 ∷ []) 4 ∷ plan_with triangle 7 ∷ plan_with [] 0 ∷ []; current = 1; begun = true; counts = replicate 15 0; home = false })))
    -- all items sent as a part are a part: current item and begun stay
    ∷ (shown (run flying (parts flight 0 2 (land 0 ∷ jump_to 1 0 0 ∷ land 2 ∷ []))).shown
    is shown (record { plans = plan_with (land 0 ∷ jump_to 1 0 0 ∷ land 2 ∷ []) 4 ∷ plan_with triangle 7 ∷ plan_with [] 0 ∷ []; current = 1; begun = true; counts = replicate 15 0; home = false }))
    -- a part of another kind leaves the counts, and gives a new number too
    ∷ (shown (run flying (parts fence 0 2 triangle)).shown
    is shown (record { plans = plan_with (waypoint 0 ∷ waypoint 1 ∷ waypoint 2 ∷ []) 3 ∷ plan_with triangle 8 ∷ plan_with [] 0 ∷ []; current = 1; begun = true; counts = 9 ∷ replicate 14 0; home = false }))
    -- until the last item the old plan is shown
    ∷ (shown (run flying (parts flight 0 1 (land 0 ∷ []))).shown is shown flying.shown)
    ∷ (answer (after flying (parts flight 0 1 (land 0 ∷ [])) (asks_for_item tablet flight 0)) is answer (says (item_int tablet 0 (waypoint 0))))
    ∷ (upload (upload_of (run flying (sends_part tablet 5 flight 1 2 ∷ sends_item tablet 7 (land 1) ∷ [])) flight)
    is upload (running (record { station = tablet; task = record { count = 3; partial = true; first = 1; last = 2 }; next = 2; taken = item_of (land 1) ∷ []; started = 7; repeats = 0 })))
    -- numbers below start and past end are not the expected ones; an expiry asks for the next number
    ∷ (answer (after flying (parts flight 1 1 []) (sends_item tablet 0 (land 0))) is answer (says (request_int tablet 1 0)))
    ∷ (answer (after flying (parts flight 1 1 []) (sends_item tablet 0 (land 2))) is answer (says (request_int tablet 1 0)))
    ∷ (answer (after flying (parts flight 1 2 (land 1 ∷ [])) (sends_item tablet 0 (land 1))) is answer (says (request_int tablet 2 0)))
    ∷ (answer (after flying (parts flight 1 2 (land 1 ∷ [])) (ticks 250 flight)) is answer (says (request_int tablet 2 0)))
    -- "needs 0 <= start <= end < length, else 13": both ends of the plan, start = end, past the end, the wrong way round, below 0; an empty plan
    ∷ (answer (after flying [] (sends_part tablet 0 flight 0 2)) is answer (says (request_int tablet 0 0)))
    ∷ (answer (after flying [] (sends_part tablet 0 flight 2 2)) is answer (says (request_int tablet 2 0)))
    ∷ (answer (after flying [] (sends_part tablet 0 flight 2 3)) is answer (verdict 13 0))
    ∷ (answer (after flying [] (sends_part tablet 0 flight 3 3)) is answer (verdict 13 0))
    ∷ (answer (after flying [] (sends_part tablet 0 flight 2 1)) is answer (verdict 13 0))
    ∷ (answer (after flying [] (sends_part tablet 0 flight 65535 1)) is answer (verdict 13 0))
    ∷ (answer (after flying [] (sends_part tablet 0 flight 0 65535)) is answer (verdict 13 0))
    ∷ (answer (after flying [] (sends_part tablet 0 flight 32768 32768)) is answer (verdict 13 0))
    ∷ (answer (after flying [] (sends_part tablet 0 rally 0 0)) is answer (verdict 13 2))
    -- COUNT's rule on running uploads: another station's is denied whatever the range; the own one, whole or partial, ends, also where the range is wrong
    ∷ (answer (after flying (sends_part neighbour 0 flight 1 1 ∷ []) (sends_part tablet 0 flight 1 3)) is answer (verdict 14 0))
    ∷ (answer (after flying (sends_part neighbour 0 flight 1 1 ∷ []) (sends_count tablet 0 flight 1)) is answer (verdict 14 0))
    ∷ (upload (upload_of (run flying (parts flight 1 1 [] ++ parts flight 1 3 [])) flight) is upload idle)
    ∷ (upload (upload_of (run flying (sends_count tablet 0 flight 2 ∷ sends_part tablet 0 flight 2 1 ∷ [])) flight) is upload idle)
    ∷ (replies (answers flying (sends_count tablet 0 flight 1 ∷ parts flight 2 2 (land 2 ∷ []))) is replies (says (request_int tablet 0 0) ∷ says (request_int tablet 2 0) ∷ says (ack tablet 0 0 4) ∷ []))
    ∷ (replies (answers flying (parts flight 2 2 [] ++ (sends_count tablet 0 flight 1 ∷ sends_item tablet 0 (land 0) ∷ []))) is replies (says (request_int tablet 2 0) ∷ says (request_int tablet 0 0) ∷ says (ack tablet 0 0 4) ∷ []))
    -- a part ends as an upload does: an ACK with a reason, a clear, an invalid item
    ∷ (upload (upload_of (run flying (parts flight 1 2 [] ++ (sends_ack tablet flight 1 ∷ []))) flight) is upload idle)
    ∷ (answer (after flying (parts flight 1 2 []) (sends_item tablet 0 (circle 1))) is answer (verdict 13 1))
    ∷ (answer (after flying (parts flight 1 2 []) (sends_item tablet 0 (item_as flight 15 1 0 0 0))) is answer (verdict 3 0))
    ∷ (answer (after flying (parts flight 1 2 [] ++ (sends_clear tablet flight ∷ [])) (sends_item tablet 0 (land 1))) is answer (verdict 13 0))
    -- jump targets: 0 to the stored length less 1, not the item's own number
    ∷ (answer (after flying (parts flight 0 0 []) (sends_item tablet 0 (jump_to 0 0x40000000 0))) is answer (says (ack tablet 0 0 4)))
    ∷ (answer (after flying (parts flight 0 0 []) (sends_item tablet 0 (jump_to 0 f3 0))) is answer (verdict 6 0))
    ∷ (answer (after flying (parts flight 1 1 []) (sends_item tablet 0 (jump_to 1 f1 0))) is answer (verdict 6 0))
    -- fifteen jumps stand: a sixteenth gets 4, at the last item only, which need not be a jump; one in place of a jump is accepted
    ∷ (answer (after looping (parts flight 15 16 (jump_to 15 0 0 ∷ [])) (sends_item tablet 0 (jump_to 16 0 0))) is answer (verdict 4 0))
    ∷ (replies (answers looping (parts flight 0 1 (jump_to 0 f1 0 ∷ jump_to 1 0 0 ∷ []))) is replies (says (request_int tablet 0 0) ∷ says (request_int tablet 1 0) ∷ verdict 4 0 ∷ []))
    ∷ (replies (answers (stored (waypoint 0 ∷ replicate 16 (jump_to 1 0 0)) []) (parts flight 0 0 (land 0 ∷ []))) is replies (says (request_int tablet 0 0) ∷ verdict 4 0 ∷ []))
    ∷ (answer (after looping (parts flight 15 16 (waypoint 15 ∷ [])) (sends_item tablet 0 (jump_to 16 0 0))) is answer (says (ack tablet 0 0 4)))
    ∷ (answer (after looping (parts flight 1 1 []) (sends_item tablet 0 (jump_to 1 0 f_minus_one))) is answer (says (ack tablet 0 0 4)))
    -- after 4 plan, number and progress stand
    ∷ (model (run looping (parts flight 16 16 (jump_to 16 0 0 ∷ []))) is model looping)
    -- the fence rule is applied to the whole: a part breaks it, and mends a fence that a host broke
    ∷ (answer (after flying (parts fence 1 1 []) (sends_item tablet 0 (vertex 1 f4))) is answer (verdict 5 1))
    ∷ (model (run flying (parts fence 1 1 (vertex 1 f4 ∷ []))) is model flying)
    ∷ (answer (after flying (parts fence 1 1 []) (sends_item tablet 0 (vertex 1 f3))) is answer (says (ack tablet 0 1 8)))
    ∷ (answer (after (stored (waypoint 0 ∷ waypoint 1 ∷ []) (vertex 0 f3 ∷ vertex 1 f4 ∷ vertex 2 f3 ∷ [])) (parts fence 1 1 []) (sends_item tablet 0 (vertex 1 f3))) is answer (says (ack tablet 0 1 8)))
    ∷ (replies (answers flying (parts fence 0 2 (circle 0 ∷ circle 1 ∷ circle 2 ∷ []))) is replies (says (request_int tablet 0 1) ∷ says (request_int tablet 1 1) ∷ says (request_int tablet 2 1) ∷ says (ack tablet 0 1 8) ∷ []))
    -- outcome 15: a whole upload's first and last are 0 and count less 1
    ∷ (answer (uploading 5 false 0 4 4 5) is answer listed)
    ∷ (answer (uploading 5 false 1 4 4 5) is answer (refused 15))
    ∷ (answer (uploading 5 false 0 3 2 5) is answer (refused 15))
    ∷ (answer (uploading 5 false 0 4 5 5) is answer (refused 15))
    -- a partial one's count is the plan's length, and first <= next <= last < count; repeats as before
    ∷ (answer (uploading 3 true 1 2 1 5) is answer listed)
    ∷ (answer (uploading 3 true 1 2 2 5) is answer listed)
    ∷ (answer (uploading 2 true 1 1 1 0) is answer (refused 15))
    ∷ (answer (uploading 4 true 1 2 1 0) is answer (refused 15))
    ∷ (answer (uploading 3 true 1 2 0 0) is answer (refused 15))
    ∷ (answer (uploading 3 true 1 1 2 0) is answer (refused 15))
    ∷ (answer (uploading 3 true 1 3 1 0) is answer (refused 15))
    ∷ (answer (uploading 3 true 1 2 1 6) is answer (refused 15))
    ∷ []
