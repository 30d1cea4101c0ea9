-- M-109: home in item 0. The request's clauses with the setting, both sides of each edge, and the places of it that are easily read wrong. One table, and one
-- statement: every case holds. All other tables are without the setting.
use Rattle.std.specs.Prelude.{ℕ, List, [], ◌∷◌, ◌++◌, Bool, true, false, replicate}
use Rattle.rules.specs.Limits.{flight, fence, rally}
use Rattle.rules.specs.Messages.{Item, current, ack, request_int, item_int}
use Rattle.rules.specs.Model.{Model, fresh}
use Rattle.rules.specs.NextCommand.{fly, finished, stuck}
use Rattle.rules.specs.Step.{Answer, says, refusal_text, run}
use Rattle.rules.specs.Cases.{Case, answer, commands, shown, model, ◌is◌, tablet, sends_count, sends_part, sends_item, sends_clear, asks_for_item, sets_current, finishes, after, ordered, uploads, verdict, f1, f2, f3, f_na_n, f_minus_zero, f_minus_one, item_as, item_with, waypoint, takeoff, land, jump_to, circle, plan_with, resting}

-- ---- what the cases start from

-- these flight items are stored, with number 3; nothing else
abbrev homed_at : (home : Bool) → List Item → (current : ℕ) (begun : Bool) → Model
homed_at home items current_item begun =
    resting (record { plans = plan_with items 3 ∷ plan_with [] 0 ∷ plan_with [] 0 ∷ []; current = current_item; begun = begun; counts = 9 ∷ replicate 14 0; home = home })

-- with the setting, at item 0, which is not begun
abbrev homed : List Item → Model
homed items = homed_at true items 0 false

-- home and two items to fly
abbrev three : List Item
three = waypoint 0 ∷ takeoff 1 ∷ land 2 ∷ []

-- the answer to the tablet's item with the next number, after these items of an upload of `n`
abbrev taken : (home : Bool) (kind n : ℕ) → List Item → Item → Answer
taken home kind n items item = after (fresh home) (uploads kind n items) (sends_item tablet 0 item)

-- the answer to an item that is the whole of a part of the flight plan
abbrev changed : (n : ℕ) → Item → Answer
changed n item = after (homed three) (sends_part tablet 0 flight n n ∷ []) (sends_item tablet 0 item)

abbrev asked : (seq : ℕ) → Answer
asked seq = says (request_int tablet seq 0)

abbrev refused_by_text : Answer
refused_by_text = says refusal_text

-- item 0, an item to fly, fifteen jumps that are passed over, and one more item; where item 0 is a jump, the last of them is the plan's sixteenth
abbrev jumps : (first : Item) → List Item
jumps first = first ∷ takeoff 1 ∷ replicate 14 (jump_to 2 f1 0) ++ (jump_to 16 f1 0 ∷ land 17 ∷ [])

abbrev pub homes : List Case
homes =
    -- "item 0 of a flight plan must be command 16 (else 3)", at the command's place in the order: before its frame and its params
    (answer (taken true flight 2 [] (waypoint 0)) is answer (asked 1))
    ∷ (answer (taken true flight 2 [] (takeoff 0)) is answer (verdict 3 0))
    ∷ (answer (taken true flight 2 [] (item_as flight 20 0 0 0 0)) is answer (verdict 3 0))
    ∷ (answer (taken true flight 2 [] (jump_to 0 f1 0)) is answer (verdict 3 0))
    ∷ (answer (taken true flight 2 [] (item_as flight 5000 0 0 0 0)) is answer (verdict 3 0))
    ∷ (answer (taken true flight 2 [] (item_with flight 22 0 1 0 0 0 0 0)) is answer (verdict 3 0))
    ∷ (answer (taken true flight 2 [] (item_with flight 18 0 3 f_minus_one 0 0 0 0)) is answer (verdict 3 0))
    ∷ (answer (taken true flight 2 [] (item_with flight 16 0 1 0 0 0 0 0)) is answer (verdict 2 0))
    ∷ (answer (taken true flight 2 [] (item_as flight 16 0 f_minus_one 0 0)) is answer (verdict 6 0))
    ∷ (answer (taken true flight 2 (waypoint 0 ∷ []) (takeoff 1)) is answer (says (ack tablet 0 0 1)))
    -- without the setting item 0 is an ordinary item
    ∷ (answer (taken false flight 2 [] (takeoff 0)) is answer (asked 1))
    ∷ (answer (taken false flight 2 [] (jump_to 0 f1 0)) is answer (asked 1))
    -- fence and rally have no home
    ∷ (answer (taken true fence 1 [] (circle 0)) is answer (says (ack tablet 0 1 1)))
    ∷ (answer (taken true rally 1 [] (item_as rally 5100 0 0 0 0)) is answer (says (ack tablet 0 2 1)))
    ∷ (answer (taken true fence 1 [] (item_as fence 16 0 0 0 0)) is answer (verdict 3 1))
    -- item 0 of a part is judged the same, no other
    ∷ (answer (changed 0 (waypoint 0)) is answer (says (ack tablet 0 0 4)))
    ∷ (answer (changed 0 (land 0)) is answer (verdict 3 0))
    ∷ (answer (changed 1 (land 1)) is answer (says (ack tablet 0 0 4)))
    ∷ (answer (changed 1 (jump_to 1 0 0)) is answer (verdict 6 0))
    ∷ (answer (changed 1 (jump_to 1 f2 0)) is answer (says (ack tablet 0 0 4)))
    -- "a jump to 0 is refused with 6", minus zero as well; at param 1's place, behind the frame and before param 2
    ∷ (answer (taken true flight 3 (waypoint 0 ∷ []) (jump_to 1 0 0)) is answer (verdict 6 0))
    ∷ (answer (taken true flight 3 (waypoint 0 ∷ []) (jump_to 1 f_minus_zero 0)) is answer (verdict 6 0))
    ∷ (answer (taken true flight 3 (waypoint 0 ∷ []) (item_with flight 177 1 1 0 0 0 0 0)) is answer (verdict 2 0))
    ∷ (answer (taken true flight 3 (waypoint 0 ∷ []) (jump_to 1 0 0xc0000000)) is answer (verdict 6 0))
    ∷ (answer (taken true flight 3 (waypoint 0 ∷ []) (jump_to 1 f2 0)) is answer (asked 2))
    ∷ (answer (taken true flight 3 (waypoint 0 ∷ takeoff 1 ∷ []) (jump_to 2 f1 0)) is answer (says (ack tablet 0 0 1)))
    ∷ (answer (taken true flight 3 (waypoint 0 ∷ []) (jump_to 1 f1 0)) is answer (verdict 6 0))
    ∷ (answer (taken true flight 3 (waypoint 0 ∷ []) (jump_to 1 f3 0)) is answer (verdict 6 0))
    ∷ (answer (taken true flight 3 (waypoint 0 ∷ []) (jump_to 1 f_na_n 0)) is answer (verdict 6 0))
    ∷ (answer (taken false flight 3 (waypoint 0 ∷ []) (jump_to 1 0 0)) is answer (asked 2))
    ∷ (answer (taken false flight 3 (waypoint 0 ∷ []) (jump_to 1 f_minus_zero 0)) is answer (asked 2))
    -- "SET_CURRENT 0 chooses 1, and is refused by text if there is no item 1"
    ∷ (answer (after (homed three) [] (sets_current tablet 0)) is answer (says (current 1 3 0 0 3 0 0)))
    ∷ (model (run (homed_at true three 2 true) (sets_current tablet 0 ∷ [])) is model (homed_at true three 1 false))
    ∷ (answer (after (homed (waypoint 0 ∷ takeoff 1 ∷ [])) [] (sets_current tablet 0)) is answer (says (current 1 2 0 0 3 0 0)))
    ∷ (answer (after (homed (waypoint 0 ∷ [])) [] (sets_current tablet 0)) is answer refused_by_text)
    ∷ (model (run (homed_at true (waypoint 0 ∷ []) 0 true) (sets_current tablet 0 ∷ [])) is model (homed_at true (waypoint 0 ∷ []) 0 true))
    ∷ (answer (after (fresh true) [] (sets_current tablet 0)) is answer refused_by_text)
    ∷ (answer (after (homed three) [] (sets_current tablet 1)) is answer (says (current 1 3 0 0 3 0 0)))
    ∷ (answer (after (homed three) [] (sets_current tablet 2)) is answer (says (current 2 3 0 0 3 0 0)))
    ∷ (answer (after (homed three) [] (sets_current tablet 3)) is answer refused_by_text)
    ∷ (answer (after (homed_at false (waypoint 0 ∷ []) 0 true) [] (sets_current tablet 0)) is answer (says (current 0 1 0 0 3 0 0)))
    -- "a search that would begin at 0 begins at 1"; from a begun item 0 it would begin at 1
    ∷ (commands (ordered (homed three) (finishes ∷ finishes ∷ finishes ∷ [])) is commands (fly 1 ∷ fly 2 ∷ finished ∷ []))
    ∷ (commands (ordered (homed_at true three 0 true) (finishes ∷ [])) is commands (fly 1 ∷ []))
    ∷ (commands (ordered (homed_at true three 1 false) (finishes ∷ [])) is commands (fly 1 ∷ []))
    ∷ (commands (ordered (homed_at true three 1 true) (finishes ∷ [])) is commands (fly 2 ∷ []))
    ∷ (commands (ordered (homed_at false three 0 false) (finishes ∷ finishes ∷ [])) is commands (fly 0 ∷ fly 1 ∷ []))
    -- home alone, and no plan: finished, and nothing changes
    ∷ (commands (ordered (homed (waypoint 0 ∷ [])) (finishes ∷ [])) is commands (finished ∷ []))
    ∷ (model (run (homed (waypoint 0 ∷ [])) (finishes ∷ [])) is model (homed (waypoint 0 ∷ [])))
    ∷ (commands (ordered (fresh true) (finishes ∷ [])) is commands (finished ∷ []))
    -- a jump to 0 that a host wrote breaks a rule
    ∷ (commands (ordered (homed (waypoint 0 ∷ jump_to 1 0 f1 ∷ land 2 ∷ [])) (finishes ∷ [])) is commands (stuck ∷ []))
    ∷ (commands (ordered (homed_at false (waypoint 0 ∷ jump_to 1 0 f_minus_one ∷ land 2 ∷ []) 1 false) (finishes ∷ [])) is commands (fly 0 ∷ []))
    -- what a host wrote to item 0 is not met, and a jump there is the plan's first jump for the counts
    ∷ (commands (ordered (homed (item_as flight 15 0 0 0 0 ∷ takeoff 1 ∷ [])) (finishes ∷ [])) is commands (fly 1 ∷ []))
    ∷ (shown (run (homed_at true (jump_to 0 f1 0 ∷ takeoff 1 ∷ jump_to 2 f1 f1 ∷ land 3 ∷ []) 1 true) (finishes ∷ [])).shown
    is shown
    (record {
      plans = plan_with (jump_to 0 f1 0 ∷ takeoff 1 ∷ jump_to 2 f1 f1 ∷ land 3 ∷ []) 3 ∷ plan_with [] 0 ∷ plan_with [] 0 ∷ [];
      current = 1;
      begun = true;
      counts = 9 ∷ 1 ∷ replicate 13 0;
      home = true;
    }))
    ∷ (commands (ordered (homed (jumps (waypoint 0))) (finishes ∷ finishes ∷ [])) is commands (fly 1 ∷ fly 17 ∷ []))
    ∷ (commands (ordered (homed (jumps (jump_to 0 f1 0))) (finishes ∷ finishes ∷ [])) is commands (fly 1 ∷ stuck ∷ []))
    -- after a replacement item 0 is current, as without the setting, and what is searched for begins at 1
    ∷ (answer (after (homed_at true three 2 true) (uploads flight 2 (waypoint 0 ∷ takeoff 1 ∷ [])) (asks_for_item tablet flight 0)) is answer (says (item_int tablet 1 (waypoint 0))))
    ∷ (commands (ordered (run (homed_at true three 2 true) (uploads flight 2 (waypoint 0 ∷ takeoff 1 ∷ []))) (finishes ∷ [])) is commands (fly 1 ∷ []))
    -- nothing changes the setting: a replacement, a part, a choice, a "command done" call, a clear of flight and of every kind, a count of 0
    ∷ (answer (after (homed three) (uploads flight 1 (waypoint 0 ∷ []) ++ (sends_count tablet 0 flight 1 ∷ [])) (sends_item tablet 0 (takeoff 0))) is answer (verdict 3 0))
    ∷ (model (run (homed three) (sends_part tablet 0 flight 1 1 ∷ sends_item tablet 0 (takeoff 1) ∷ []))
    is model
    (resting (record { plans = plan_with three 4 ∷ plan_with [] 0 ∷ plan_with [] 0 ∷ []; current = 0; begun = false; counts = replicate 15 0; home = true })))
    ∷ (model (run (homed three) (sets_current tablet 2 ∷ finishes ∷ [])) is model (homed_at true three 2 true))
    ∷ (shown (run (homed three) (sends_clear tablet flight ∷ [])).shown
    is shown (record { plans = plan_with [] 3 ∷ plan_with [] 0 ∷ plan_with [] 0 ∷ []; current = 0; begun = false; counts = replicate 15 0; home = true }))
    ∷ (answer (after (homed three) (sends_clear tablet flight ∷ uploads flight 1 []) (sends_item tablet 0 (takeoff 0))) is answer (verdict 3 0))
    ∷ (answer (after (homed three) (sends_clear tablet 255 ∷ uploads flight 1 []) (sends_item tablet 0 (takeoff 0))) is answer (verdict 3 0))
    ∷ (answer (after (homed three) (sends_count tablet 0 flight 0 ∷ uploads flight 1 []) (sends_item tablet 0 (takeoff 0))) is answer (verdict 3 0))
    ∷ []
