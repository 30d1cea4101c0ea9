-- What the rules on items tell of an item that they accept: what its row asks holds, and of a jump and a servo command the numbers are in bounds.
use Rattle.std.specs.Prelude.{ℕ, ◌≤◌, ◌<◌, ◌≡◌, refl, Bool, true, false, not, cond, ◌&&◌, ◌||◌, ℤ, pos, negsuc, eqb, leb, ltb}
use Rattle.std.proofs.Common.{arith, sym, ◌∙◌, true≢false, eqb-true, leb-true, leb-false, ltb-true}
use Rattle.std.specs.Int.Signed.{le_z}
use Rattle.std.proofs.lemmas.Bool.{eqb-false, not-true}
use Rattle.rules.specs.Limits.{flight, max_jumps, max_runs, forever, first_servo, last_servo, min_pulse, max_pulse, accepted, unsupported_frame, invalid_param1, invalid_param2, no_space}
use Rattle.rules.specs.Messages.{Item}
use Rattle.rules.specs.Values.{float, Whole, integer, no_value, not_whole, whole_of, whole_from, is_none, whole_number}
use Rattle.rules.specs.Items.{Row, commands, is_target, is_whole, is_whole_or_none, jump, set_servo, is_jump, target_in, param_ok, frame_ok, place_fault, room_fault, fault_in, fault_among, not_home, fault}
use Rattle.rules.specs.NextCommand.{or_one, repeat_of, passed_over}
use Rattle.rule_laws.specs.Tests.{both, either}

-- ---- a row

-- an item keeps what a row asks of its params, and nothing after them is amiss
record Passes (r : Row) (count own jumps : ℕ) (item : Item) : Type 0 where
  param1 : param_ok r.param1 count own (float item.param1) ≡ true
  param2 : param_ok r.param2 count own (float item.param2) ≡ true
  rest : place_fault r.positional item (room_fault jumps item) ≡ accepted

passes : (r : Row) (count own jumps : ℕ) (item : Item) → fault_in r count own jumps item ≡ accepted → Passes r count own jumps item
unfolding fault_in
passes r count own jumps item =
    go (frame_ok r.positional item.frame) (param_ok r.param1 count own (float item.param1)) (param_ok r.param2 count own (float item.param2)) refl refl
  where
    go : (frame one two : Bool) → param_ok r.param1 count own (float item.param1) ≡ one → param_ok r.param2 count own (float item.param2) ≡ two
        → cond (not frame) unsupported_frame (cond (not one) invalid_param1 (cond (not two) invalid_param2 (place_fault r.positional item (room_fault jumps item)))) ≡ accepted
        → Passes r count own jumps item
    go true true true e1 e2 e = record { param1 = e1; param2 = e2; rest = e }
    go true true false e1 e2 e = absurd (omega arith)
    go true false two e1 e2 e = absurd (omega arith)
    go false one two e1 e2 e = absurd (omega arith)

-- what is accepted is so by the command table, and is home where home must stand
pub by_table : (home : Bool) (kind count own jumps : ℕ) (item : Item) → fault home kind count own jumps item ≡ accepted → fault_among (commands home) kind count own jumps item ≡ accepted
unfolding fault
by_table home kind count own jumps item =
    either (λ (a : ℕ). a ≡ accepted → fault_among (commands home) kind count own jumps item ≡ accepted) (not_home home kind own item) (λ t e. absurd (omega arith)) (λ t e. e)

-- ---- jumps

abbrev jumps : (home : Bool) → Row
jumps home = record { command = jump; kind = flight; positional = false; param1 = is_target home; param2 = is_whole_or_none forever (pos max_runs) }

jump_row : (home : Bool) (size own j : ℕ) (i : Item) → i.command ≡ jump → fault_among (commands home) flight size own j i ≡ fault_in (jumps home) size own j i
unfolding fault_among
jump_row home size own j i e = rw e

-- a repeat is -1 to 32767
abbrev pub Repeats : ℤ → Type 0
Repeats r = (le_z forever r && le_z r (pos max_runs)) ≡ true

-- so it is where the param has no value
repeats_within : (w : Whole) → (is_none w || whole_from forever (pos max_runs) w) ≡ true → Repeats (or_one w)
unfolding or_one whole_from
repeats_within (integer v) e = e
repeats_within no_value e = refl
repeats_within not_whole e = absurd (true≢false (sym e))

room_left : (j : ℕ) (i : Item) → is_jump i ≡ true → room_fault j i ≡ accepted → j < max_jumps
room_left j i e h = leb-false max_jumps j (go (leb max_jumps j) (rw e at h))
  where
    go : (t : Bool) → cond t no_space accepted ≡ accepted → t ≡ false
    go true h' = absurd (omega arith)
    go false h' = refl

-- what the row of jumps asks, and the room for jumps
pub record ValidJump (home : Bool) (size own j : ℕ) (i : Item) : Type 0 where
  pub target : target_in home size own (whole_of (float i.param1)) ≡ true
  pub repeats : Repeats (repeat_of i)
  pub room : j < max_jumps

pub valid_jump : (home : Bool) (size own j : ℕ) (i : Item) → fault home flight size own j i ≡ accepted → is_jump i ≡ true → ValidJump home size own j i
unfolding param_ok place_fault
valid_jump home size own j i ok is =
    let h = passes (jumps home) size own j i (sym (jump_row home size own j i (eqb-true i.command jump is)) ∙ by_table home flight size own j i ok) in
    record { target = h.param1; repeats = repeats_within (whole_of (float i.param2)) h.param2; room = room_left j i is h.rest }

pub target_below : (home : Bool) (size own : ℕ) (w : Whole) → target_in home size own w ≡ true → whole_number w < size
unfolding target_in whole_number
target_below home size own (integer (pos t)) e =
    ltb-true t size (both (ltb t size) (not (eqb t own)) (both (ltb t size && not (eqb t own)) (not (home && eqb t 0)) e).0).0
target_below home size own (integer (negsuc t)) e = absurd (true≢false (sym e))
target_below home size own no_value e = absurd (true≢false (sym e))
target_below home size own not_whole e = absurd (true≢false (sym e))

-- where item 0 is home no jump leads there
pub target_flown : (size own : ℕ) (w : Whole) → target_in true size own w ≡ true → 1 ≤ whole_number w
unfolding target_in whole_number
target_flown size own (integer (pos t)) e =
    let other = eqb-false t 0 (not-true (eqb t 0) (both (ltb t size && not (eqb t own)) (not (eqb t 0)) e).1) in
    omega (arith, other)
target_flown size own (integer (negsuc t)) e = absurd (true≢false (sym e))
target_flown size own no_value e = absurd (true≢false (sym e))
target_flown size own not_whole e = absurd (true≢false (sym e))

-- a jump that repeats a number of times and is not passed over has run fewer times than the limit
pub runs_below : (r c : ℕ) → Repeats (pos r) → passed_over (pos r) c ≡ false → c < max_runs
unfolding passed_over
runs_below r c within left = omega (arith, leb-true r max_runs within, leb-false r c left)

-- ---- servo commands

abbrev servos : Row
servos = record { command = set_servo; kind = flight; positional = false; param1 = is_whole (pos first_servo) (pos last_servo); param2 = is_whole (pos min_pulse) (pos max_pulse) }

servo_row : (home : Bool) (size own j : ℕ) (i : Item) → i.command ≡ set_servo → fault_among (commands home) flight size own j i ≡ fault_in servos size own j i
unfolding fault_among
servo_row home size own j i e = rw e

number_within : (low high : ℕ) (w : Whole) → whole_from (pos low) (pos high) w ≡ true → whole_number w ≤ high
unfolding whole_from whole_number
number_within low high (integer (pos n)) e = leb-true n high (both (leb low n) (leb n high) e).1
number_within low high (integer (negsuc n)) e = omega arith
number_within low high no_value e = omega arith
number_within low high not_whole e = omega arith

-- a servo's channel and pulse have 16 bits
pub record ServoFits (i : Item) : Type 0 where
  pub channel : i.command ≡ set_servo → whole_number (whole_of (float i.param1)) < 65536
  pub pulse : i.command ≡ set_servo → whole_number (whole_of (float i.param2)) < 65536

pub valid_servo : (home : Bool) (size own j : ℕ) (i : Item) → fault home flight size own j i ≡ accepted → ServoFits i
unfolding param_ok
valid_servo home size own j i ok =
    let kept : i.command ≡ set_servo → Passes servos size own j i = λ e. passes servos size own j i (sym (servo_row home size own j i e) ∙ by_table home flight size own j i ok) in
    record {
      channel = λ e. let below = number_within first_servo last_servo (whole_of (float i.param1)) (kept e).param1 in omega arith;
      pulse = λ e. let below = number_within min_pulse max_pulse (whole_of (float i.param2)) (kept e).param2 in omega arith;
    }
