-- Cases on both sides of each bound: the items' frames, params and coordinates, those of return home (M-101), params without a value (M-105), and the
-- numbers of the state. One table, and one statement: every case holds.
use Rattle.std.specs.Prelude.{ℕ, List, [], ◌∷◌, ◌++◌, map, false, get_or, set, replicate, pos, negsuc}
use Rattle.rules.specs.Limits.{flight, fence, rally}
use Rattle.rules.specs.Values.{float, Whole, integer, no_value, not_whole, whole_of}
use Rattle.rules.specs.Messages.{Item, count, ack, request_int, item_int}
use Rattle.rules.specs.Model.{whole_task, Model, Plan, idle, running, fresh}
use Rattle.rules.specs.NextCommand.{fly, finished, stuck}
use Rattle.rules.specs.Step.{Answer, refused, says, run, reply_bytes}
use Rattle.rules.specs.Cases.{Case, numbers, wholes, answer, commands, ◌is◌, tablet, sends_item, asks_for_list, asks_for_item, ticks, finishes, after, ordered, with_flight, f1, f2, f3, f_na_n, f_minus_zero, f_minus_one, item_with, item_as, waypoint, jump_to, vertex, plans_of, resting, uploads, judges}

-- ---- the result for an item

-- byte 2 of an ACK
abbrev result_of : Answer → ℕ
result_of a = get_or (reply_bytes a) 2 0

-- the results for the only item of an upload, made of each of some values
abbrev results : (kind : ℕ) → (ℕ → Item) → List ℕ → List ℕ
results kind make values = map (λ (v : ℕ). result_of (judges kind (make v))) values

-- a flight item by its frame; by y and by z; by params
abbrev framed : (command frame : ℕ) → Item
framed command frame = item_with flight command 0 frame 0 0 0 0 0

abbrev at_y : ℕ → Item
at_y y = item_with flight 16 0 3 0 0 0 y 0

abbrev at_z : ℕ → Item
at_z z = item_with flight 16 0 3 0 0 0 0 z

abbrev by_param1 : (kind command param1 : ℕ) → Item
by_param1 kind command param1 = item_as kind command 0 param1 0 0

abbrev by_command : (kind param1 command : ℕ) → Item
by_command kind param1 command = by_param1 kind command param1

-- return home in a frame, at a place
abbrev home : (frame x y z : ℕ) → Item
home frame x y z = item_with flight 20 0 frame 0 0 x y z

abbrev servo : (channel pulse : ℕ) → Item
servo channel pulse = item_as flight 183 0 channel pulse 0

-- the results for a jump back from item 1, with each of some repeats
abbrev repeat_results : List ℕ → List ℕ
repeat_results repeats = map (λ (r : ℕ). result_of (after (fresh false) (uploads flight 2 (waypoint 0 ∷ [])) (sends_item tablet 0 (jump_to 1 0 r)))) repeats

-- ---- params as whole numbers

abbrev wholes_of : List ℕ → List Whole
wholes_of patterns = map (λ (bits : ℕ). whole_of (float bits)) patterns

-- NaN, quiet and signalling, of either sign: the first and the last pattern of each
abbrev no_values : List ℕ
no_values = 0x7fc00000 ∷ 0x7fffffff ∷ 0x7f800001 ∷ 0x7fbfffff ∷ 0xffc00000 ∷ 0xffffffff ∷ 0xff800001 ∷ 0xffbfffff ∷ []

-- a jump back from item 1 between two waypoints, with a repeat
abbrev looping : (repeat : ℕ) → List Item
looping repeat = waypoint 0 ∷ jump_to 1 0 repeat ∷ waypoint 2 ∷ []

-- ---- the numbers of the state

abbrev plan_of_length : ℕ → Plan
plan_of_length n = record { items = replicate n []; number = 1 }

-- plans of these lengths
abbrev lengths : (flight fence rally : ℕ) → Model
lengths a b c = resting (plans_of (plan_of_length a) (plan_of_length b) (plan_of_length c))

-- an upload with these numbers
abbrev uploading : (kind count taken repeats : ℕ) → Model
uploading kind n taken repeats =
    record {
      shown = (fresh false).shown;
      uploads = set (idle ∷ idle ∷ idle ∷ []) kind (running (record { station = tablet; task = whole_task n; next = taken; taken = replicate taken []; started = 0; repeats = repeats }));
    }

-- a flight plan of this length, at an item, with its first and its last jump count
abbrev at_item : (length current first last : ℕ) → Model
at_item n current first last =
    resting (record { plans = plan_of_length n ∷ plan_of_length 0 ∷ plan_of_length 0 ∷ []; current = current; begun = false; counts = first ∷ replicate 13 0 ++ (last ∷ []); home = false })

-- what a REQUEST_LIST of flight gets
abbrev listed : Model → Answer
listed m = after m [] (asks_for_list tablet flight)

abbrev pub bounds : List Case
bounds =
    -- frames of a positional command and of another one
    (numbers (results flight (framed 16) (0 ∷ 1 ∷ 2 ∷ 3 ∷ 4 ∷ 5 ∷ 6 ∷ 7 ∷ 9 ∷ 10 ∷ 11 ∷ 12 ∷ [])) is numbers (0 ∷ 2 ∷ 2 ∷ 0 ∷ 2 ∷ 0 ∷ 0 ∷ 2 ∷ 2 ∷ 0 ∷ 0 ∷ 2 ∷ []))
    ∷ (numbers (results flight (framed 178) (0 ∷ 1 ∷ 2 ∷ 3 ∷ 4 ∷ 5 ∷ 6 ∷ 7 ∷ 9 ∷ 10 ∷ 11 ∷ 12 ∷ [])) is numbers (0 ∷ 2 ∷ 0 ∷ 0 ∷ 2 ∷ 0 ∷ 0 ∷ 2 ∷ 2 ∷ 0 ∷ 0 ∷ 2 ∷ []))
    -- y within 1800000000 of 0 on either side, z finite; of another command they are not judged
    ∷ (numbers (results flight at_y (1800000000 ∷ 1800000001 ∷ 2494967296 ∷ 2494967295 ∷ 0x80000000 ∷ [])) is numbers (0 ∷ 11 ∷ 0 ∷ 11 ∷ 11 ∷ []))
    ∷ (numbers (results flight at_z (0x7f7fffff ∷ 0x7f800000 ∷ 0xff800000 ∷ f_na_n ∷ [])) is numbers (0 ∷ 12 ∷ 12 ∷ 12 ∷ []))
    ∷ (answer (judges flight (item_with flight 178 0 2 0 0 900000001 1800000001 f_na_n)) is answer (says (ack tablet 0 0 1)))
    -- the frame is judged before param 1, x before y, y before z
    ∷ (answer (judges flight (item_with flight 16 0 1 f_na_n 0 0 0 0)) is answer (says (ack tablet 2 0 0)))
    ∷ (answer (judges flight (item_with flight 16 0 3 0 0 900000001 1800000001 f_na_n)) is answer (says (ack tablet 10 0 0)))
    ∷ (answer (judges flight (item_with flight 16 0 3 0 0 0 1800000001 f_na_n)) is answer (says (ack tablet 11 0 0)))
    -- param 1 finite and at least 0: the largest number, the first below 0, infinity; where there is no rule, NaN
    ∷ (numbers (results flight (by_command flight 0x7f7fffff) (16 ∷ 18 ∷ 19 ∷ 112 ∷ 114 ∷ [])) is numbers (0 ∷ 0 ∷ 0 ∷ 0 ∷ 0 ∷ []))
    ∷ (numbers (results flight (by_command flight 0x80000001) (16 ∷ 18 ∷ 19 ∷ 112 ∷ 114 ∷ [])) is numbers (6 ∷ 6 ∷ 6 ∷ 6 ∷ 6 ∷ []))
    ∷ (numbers (results flight (by_command flight 0x7f800000) (16 ∷ 18 ∷ 19 ∷ 112 ∷ 114 ∷ [])) is numbers (6 ∷ 6 ∷ 6 ∷ 6 ∷ 6 ∷ []))
    ∷ (numbers (results flight (by_command flight f_na_n) (17 ∷ 20 ∷ 21 ∷ 22 ∷ 31 ∷ 178 ∷ [])) is numbers (0 ∷ 0 ∷ 0 ∷ 0 ∷ 0 ∷ 0 ∷ []))
    -- 115: 0, 360, just above it, the first below 0
    ∷ (numbers (results flight (by_param1 flight 115) (0 ∷ 0x43b40000 ∷ 0x43b40001 ∷ 0x80000001 ∷ [])) is numbers (0 ∷ 0 ∷ 6 ∷ 6 ∷ []))
    -- 178: param 2 -1, the largest, infinity
    ∷ (numbers (results flight (λ (v : ℕ). item_as flight 178 0 0 v 0) (f_minus_one ∷ 0x7f7fffff ∷ 0x7f800000 ∷ [])) is numbers (0 ∷ 0 ∷ 7 ∷ []))
    -- 183: channels 0, 1, 16, 17 and 1.5; pulses 499, 500, 2500, 2501 and 500.5
    ∷ (numbers (results flight (λ (v : ℕ). servo v 0x44bb8000) (0 ∷ f1 ∷ 0x41800000 ∷ 0x41880000 ∷ 0x3fc00000 ∷ [])) is numbers (6 ∷ 0 ∷ 0 ∷ 6 ∷ 6 ∷ []))
    ∷ (numbers (results flight (servo f1) (0x43f98000 ∷ 0x43fa0000 ∷ 0x451c4000 ∷ 0x451c5000 ∷ 0x43fa4000 ∷ [])) is numbers (7 ∷ 0 ∷ 0 ∷ 7 ∷ 7 ∷ []))
    -- 177: repeats -2, -1, 32767, 32768 and 0.5
    ∷ (numbers (repeat_results (0xc0000000 ∷ f_minus_one ∷ 0x46fffe00 ∷ 0x47000000 ∷ 0x3f000000 ∷ [])) is numbers (7 ∷ 0 ∷ 0 ∷ 7 ∷ 7 ∷ []))
    -- vertices 2, 3, 64, 65 and 3.5: a valid one alone is 5, since its run is short; with more to come the next is requested
    ∷ (numbers (results fence (by_param1 fence 5001) (f2 ∷ f3 ∷ 0x42800000 ∷ 0x42820000 ∷ 0x40600000 ∷ [])) is numbers (6 ∷ 5 ∷ 5 ∷ 6 ∷ 6 ∷ []))
    ∷ (numbers (results fence (by_param1 fence 5002) (f2 ∷ f3 ∷ 0x42800000 ∷ 0x42820000 ∷ 0x40600000 ∷ [])) is numbers (6 ∷ 5 ∷ 5 ∷ 6 ∷ 6 ∷ []))
    ∷ (answer (after (fresh false) (uploads fence 64 []) (sends_item tablet 0 (vertex 0 0x42800000))) is answer (says (request_int tablet 1 1)))
    ∷ (answer (after (fresh false) (uploads fence 64 []) (sends_item tablet 0 (vertex 0 0x42820000))) is answer (says (ack tablet 6 1 0)))
    -- circles: 0, the first above it, infinity
    ∷ (numbers (results fence (by_param1 fence 5003) (0 ∷ 1 ∷ 0x7f800000 ∷ [])) is numbers (6 ∷ 0 ∷ 6 ∷ []))
    ∷ (numbers (results fence (by_param1 fence 5004) (0 ∷ 1 ∷ 0x7f800000 ∷ [])) is numbers (6 ∷ 0 ∷ 6 ∷ []))
    -- commands of each kind, their neighbours, and those of the other kinds
    ∷ (numbers (results flight (by_command flight 0) (15 ∷ 23 ∷ 30 ∷ 113 ∷ 116 ∷ 176 ∷ 179 ∷ 184 ∷ 5000 ∷ 5100 ∷ [])) is numbers (3 ∷ 3 ∷ 3 ∷ 3 ∷ 3 ∷ 3 ∷ 3 ∷ 3 ∷ 3 ∷ 3 ∷ []))
    ∷ (numbers (results fence (by_command fence f_na_n) (5000 ∷ 4999 ∷ 5005 ∷ 5100 ∷ 16 ∷ 178 ∷ [])) is numbers (0 ∷ 3 ∷ 3 ∷ 3 ∷ 3 ∷ 3 ∷ []))
    ∷ (numbers (results rally (by_command rally f_na_n) (5100 ∷ 5099 ∷ 5101 ∷ 5000 ∷ 16 ∷ 178 ∷ [])) is numbers (0 ∷ 3 ∷ 3 ∷ 3 ∷ 3 ∷ 3 ∷ []))
    -- fence and rally items are positional
    ∷ (numbers (results fence (λ (v : ℕ). item_with fence 5000 0 v 0 0 0 0 0) (2 ∷ 3 ∷ [])) is numbers (2 ∷ 0 ∷ []))
    ∷ (numbers (results rally (λ (v : ℕ). item_with rally 5100 0 v 0 0 0 0 f_na_n) (2 ∷ 3 ∷ [])) is numbers (2 ∷ 12 ∷ []))
    -- M-101: of the commands about 20 it alone takes frame 2; it takes the frames of 178, and no other
    ∷ (numbers (results flight (λ (c : ℕ). framed c 2) (16 ∷ 17 ∷ 18 ∷ 19 ∷ 20 ∷ 21 ∷ 22 ∷ 31 ∷ [])) is numbers (2 ∷ 2 ∷ 2 ∷ 2 ∷ 0 ∷ 2 ∷ 2 ∷ 2 ∷ []))
    ∷ (numbers (results flight (framed 20) (0 ∷ 1 ∷ 2 ∷ 3 ∷ 4 ∷ 5 ∷ 6 ∷ 7 ∷ 9 ∷ 10 ∷ 11 ∷ 12 ∷ [])) is numbers (0 ∷ 2 ∷ 0 ∷ 0 ∷ 2 ∷ 0 ∷ 0 ∷ 2 ∷ 2 ∷ 0 ∷ 0 ∷ 2 ∷ []))
    -- its x, y and z are not judged, each by itself and all together, whatever its frame; those of 21 are
    ∷ (numbers (results flight (λ (x : ℕ). home 2 x 0 0) (900000000 ∷ 900000001 ∷ 3394967295 ∷ 0x80000000 ∷ [])) is numbers (0 ∷ 0 ∷ 0 ∷ 0 ∷ []))
    ∷ (numbers (results flight (λ (y : ℕ). home 2 0 y 0) (1800000000 ∷ 1800000001 ∷ 2494967295 ∷ 0x80000000 ∷ [])) is numbers (0 ∷ 0 ∷ 0 ∷ 0 ∷ []))
    ∷ (numbers (results flight (λ (z : ℕ). home 2 0 0 z) (0x7f7fffff ∷ 0x7f800000 ∷ 0xff800000 ∷ f_na_n ∷ [])) is numbers (0 ∷ 0 ∷ 0 ∷ 0 ∷ []))
    ∷ (numbers (results flight (λ (frame : ℕ). home frame 900000001 1800000001 f_na_n) (0 ∷ 2 ∷ 3 ∷ 1 ∷ [])) is numbers (0 ∷ 0 ∷ 0 ∷ 2 ∷ []))
    ∷ (answer (judges flight (item_with flight 21 0 3 0 0 900000001 1800000001 f_na_n)) is answer (says (ack tablet 10 0 0)))
    -- the upload completes, and the item comes back as it was sent
    ∷ (answer (judges flight (home 2 900000001 1800000001 f_na_n)) is answer (says (ack tablet 0 0 1)))
    ∷ (answer (after (fresh false) (uploads flight 1 (home 2 900000001 1800000001 f_na_n ∷ [])) (asks_for_item tablet flight 0)) is answer (says (item_int tablet 1 (home 2 900000001 1800000001 f_na_n))))
    -- its answer stays Fly; land in frame 2, which a host wrote, is Stuck
    ∷ (commands (ordered (with_flight (home 2 900000001 1800000001 f_na_n ∷ []) 1) (finishes ∷ finishes ∷ [])) is commands (fly 0 ∷ finished ∷ []))
    ∷ (commands (ordered (with_flight (framed 21 2 ∷ []) 1) (finishes ∷ [])) is commands (stuck ∷ []))
    -- M-105: a whole number: 0, minus zero, 1, -1; no value: every kind of NaN; not whole: infinities, 0.5, -1.5, the least and the largest number
    ∷ (wholes (wholes_of (0 ∷ f_minus_zero ∷ f1 ∷ f_minus_one ∷ [])) is wholes (integer (pos 0) ∷ integer (pos 0) ∷ integer (pos 1) ∷ integer (negsuc 0) ∷ []))
    ∷ (wholes (wholes_of no_values) is wholes (replicate 8 no_value))
    ∷ (wholes (wholes_of (0x7f800000 ∷ 0xff800000 ∷ 0x3f000000 ∷ 0xbfc00000 ∷ 1 ∷ 0x7f7fffff ∷ [])) is wholes (replicate 6 not_whole))
    -- 32 signed bits: the last number below 2147483648, and it; -2147483648, and the next below it
    ∷ (wholes (wholes_of (0x4effffff ∷ 0x4f000000 ∷ 0xcf000000 ∷ 0xcf000001 ∷ [])) is wholes (integer (pos 2147483520) ∷ not_whole ∷ integer (negsuc 2147483647) ∷ not_whole ∷ []))
    -- a jump's repeat may have no value; an infinity and a number beyond 32 bits are refused as before
    ∷ (numbers (repeat_results no_values) is numbers (replicate 8 0))
    ∷ (numbers (repeat_results (0x7f800000 ∷ 0xff800000 ∷ 0x4f000000 ∷ 0xcf000000 ∷ 0xcf000001 ∷ [])) is numbers (replicate 5 7))
    -- elsewhere no value is refused: a jump's target, a servo's channel and pulse, vertices; a fault before it comes first
    ∷ (numbers (results flight (λ (v : ℕ). jump_to 0 v 0) no_values) is numbers (replicate 8 6))
    ∷ (numbers (results flight (λ (v : ℕ). jump_to 0 v v) no_values) is numbers (replicate 8 6))
    ∷ (numbers (results flight (λ (v : ℕ). servo v 0x44bb8000) no_values) is numbers (replicate 8 6))
    ∷ (numbers (results flight (servo f1) no_values) is numbers (replicate 8 7))
    ∷ (numbers (results fence (by_param1 fence 5001) no_values) is numbers (replicate 8 6))
    ∷ (numbers (results fence (by_param1 fence 5002) no_values) is numbers (replicate 8 6))
    -- the jump runs once: its count goes to 1, and then it is passed over; so it does with 1, twice with 2, never with 0, for ever with -1
    ∷ (commands (ordered (with_flight (looping 0x7f800001) 1) (replicate 4 finishes)) is commands (fly 0 ∷ fly 0 ∷ fly 2 ∷ finished ∷ []))
    ∷ (commands (ordered (with_flight (looping 0xffc00000) 1) (replicate 4 finishes)) is commands (fly 0 ∷ fly 0 ∷ fly 2 ∷ finished ∷ []))
    ∷ (commands (ordered (with_flight (looping f1) 1) (replicate 4 finishes)) is commands (fly 0 ∷ fly 0 ∷ fly 2 ∷ finished ∷ []))
    ∷ (commands (ordered (with_flight (looping f2) 1) (replicate 4 finishes)) is commands (fly 0 ∷ fly 0 ∷ fly 0 ∷ fly 2 ∷ []))
    ∷ (commands (ordered (with_flight (looping 0) 1) (replicate 3 finishes)) is commands (fly 0 ∷ fly 2 ∷ finished ∷ []))
    ∷ (commands (ordered (with_flight (looping f_minus_one) 1) (replicate 4 finishes)) is commands (replicate 4 (fly 0)))
    ∷ (numbers (run (with_flight (looping f_na_n) 1) (finishes ∷ [])).shown.counts is numbers (replicate 15 0))
    ∷ (numbers (run (with_flight (looping f_na_n) 1) (replicate 2 finishes)).shown.counts is numbers (1 ∷ replicate 14 0))
    ∷ (numbers (run (with_flight (looping f_na_n) 1) (replicate 4 finishes)).shown.counts is numbers (1 ∷ replicate 14 0))
    -- an upload with it completes, and the item comes back as it was sent; an infinity as a repeat, which a host wrote, is Stuck
    ∷ (answer (after (fresh false) (uploads flight 3 (waypoint 0 ∷ jump_to 1 0 0xff800001 ∷ [])) (sends_item tablet 0 (waypoint 2))) is answer (says (ack tablet 0 0 1)))
    ∷ (answer (after (fresh false) (uploads flight 3 (looping 0xff800001)) (asks_for_item tablet flight 1)) is answer (says (item_int tablet 0 (jump_to 1 0 0xff800001))))
    ∷ (commands (ordered (with_flight (looping 0x7f800000) 1) (replicate 2 finishes)) is commands (fly 0 ∷ stuck ∷ []))
    -- outcome 15: a plan's length
    ∷ (answer (listed (lengths 256 64 32)) is answer (says (count tablet 256 0 1)))
    ∷ (answer (listed (lengths 257 0 0)) is answer (refused 15))
    ∷ (answer (listed (lengths 0 65 0)) is answer (refused 15))
    ∷ (answer (listed (lengths 0 0 33)) is answer (refused 15))
    -- outcome 15: an upload's count, of each kind
    ∷ (answer (listed (uploading flight 0 0 0)) is answer (refused 15))
    ∷ (answer (listed (uploading flight 1 0 0)) is answer (says (count tablet 0 0 0)))
    ∷ (answer (listed (uploading flight 256 0 0)) is answer (says (count tablet 0 0 0)))
    ∷ (answer (listed (uploading flight 257 0 0)) is answer (refused 15))
    ∷ (answer (listed (uploading fence 64 0 0)) is answer (says (count tablet 0 0 0)))
    ∷ (answer (listed (uploading fence 65 0 0)) is answer (refused 15))
    ∷ (answer (listed (uploading rally 32 0 0)) is answer (says (count tablet 0 0 0)))
    ∷ (answer (listed (uploading rally 33 0 0)) is answer (refused 15))
    -- outcome 15: an upload's next number, and its repeats
    ∷ (answer (listed (uploading fence 7 6 0)) is answer (says (count tablet 0 0 0)))
    ∷ (answer (listed (uploading fence 7 7 0)) is answer (refused 15))
    ∷ (answer (after (uploading rally 7 0 5) [] (ticks 250 rally)) is answer (says (ack tablet 15 2 0)))
    ∷ (answer (after (uploading rally 7 0 6) [] (ticks 250 rally)) is answer (refused 15))
    -- outcome 15: the current item
    ∷ (answer (listed (at_item 2 1 0 0)) is answer (says (count tablet 2 0 1)))
    ∷ (answer (listed (at_item 2 2 0 0)) is answer (refused 15))
    ∷ (answer (listed (at_item 0 0 0 0)) is answer (says (count tablet 0 0 0)))
    ∷ (answer (listed (at_item 0 1 0 0)) is answer (refused 15))
    -- outcome 15: the jump counts, the first and the last
    ∷ (answer (listed (at_item 1 0 32767 32767)) is answer (says (count tablet 1 0 1)))
    ∷ (answer (listed (at_item 1 0 32768 0)) is answer (refused 15))
    ∷ (answer (listed (at_item 1 0 0 32768)) is answer (refused 15))
    ∷ []
