-- Where item 0 is home, (M-109) it "is never flown": no answer carries its number, no search stands at it, and it is never begun.
use Prim.Native.Nat.{ℕ, zero, suc, ◌+◌, ◌≤◌}
use Rattle.std.proofs.Common.{arith, sym, subst, true≢false}
use Rattle.std.specs.Prelude.{◌≡◌, Bool, true, false, not, cond, ◌&&◌, length, get_or, take, drop}
use mathlib.Core.List.{List, [], ◌∷◌, ◌++◌, append_assoc, append-nil}
use Rattle.std.proofs.Math.Dec.{eqb}
use borrow.Author.Tests.{eqb-true, eqb-false, not-false}
use Rattle.rules.specs.Limits.{flight, max_followed, accepted}
use Rattle.rules.specs.Payload.{Bytes}
use Rattle.rules.specs.Messages.{Item, item_in}
use Rattle.rules.specs.Values.{float, whole_of}
use Rattle.rules.specs.Items.{delay, distance, yaw, change_speed, set_servo, is_jump, jumps_among, fault}
use Rattle.rules.specs.Model.{Plan, Shown, Model, plan_of, upload_of, next_number, fresh, in_range, with_plan, put, emptied, empty, flown, choose}
use Rattle.rules.specs.NextCommand.{Command, fly, wait, near, turn, speed, servo, finished, stuck, command_of, target_of, repeat_of, passed_over, Met, ends, stands, follows, meets, search_from, Found, nowhere, found, settle, counts_after, search, next, reach, answer_of, advance}
use Rattle.rules.specs.Calls.{Call, Heard, refuses, request, expiry, command_done, heard}
use Rattle.rules.specs.Step.{command_in, on_message, on_timer, act, step, run}
use Rattle.rule_laws.specs.Tests.{either, either₂}
use Rattle.rule_laws.specs.Refused.{plain_stuck, message_plain, timer_plain}
use Rattle.rule_laws.specs.Valid.{valid_jump, target_flown}
use Rattle.call_lists.specs.Uploads.{shown_by, answer_to, Stroke, uploaded, emptied as empties, chosen, moved_on, nothing}
use Rattle.call_lists.specs.Laws.Setting.{setting}
use Rattle.call_lists.specs.Rules.{only_strokes}

-- ---- the number that an answer carries

-- "The answer carries its number"; Finished and Stuck have none
abbrev pub Carries : Command → (i : ℕ) → Type 0
Carries (fly n) i = n ≡ i
Carries (wait n value) i = n ≡ i
Carries (near n value) i = n ≡ i
Carries (turn n value) i = n ≡ i
Carries (speed n value) i = n ≡ i
Carries (servo n channel pulse) i = n ≡ i
Carries finished i = ⊥
Carries stuck i = ⊥

carries_own : (n : ℕ) (item : Item) (i : ℕ) → Carries (command_of n item) i → n ≡ i
unfolding command_of
carries_own n item i =
    either Own (eqb item.command delay) (λ t e. e)
    (λ t. either Own (eqb item.command distance) (λ t e. e)
    (λ t. either Own (eqb item.command yaw) (λ t e. e)
    (λ t. either Own (eqb item.command change_speed) (λ t e. e)
    (λ t. either Own (eqb item.command set_servo) (λ t e. e) (λ t e. e)))))
  where
    Own : Command → Type 0
    Own c = Carries c i → n ≡ i

-- ---- the search

-- what is met: an end that does not carry 0, an item after home, or a jump to one
abbrev MetFlown : Met → Type 0
MetFlown (ends c) = Carries c 0 → ⊥
MetFlown (stands n item) = 1 ≤ n
MetFlown (follows j item) = 1 ≤ target_of item

-- what is found is an item after home, and the answer does not carry 0
abbrev pub FoundFlown : Found → Type 0
FoundFlown (nowhere c) = Carries c 0 → ⊥
FoundFlown (found n counts c) = (1 ≤ n) × (Carries c 0 → ⊥)

settle_flown :
    (m : Met) (counts : List ℕ) (follow : ℕ → Item → Found) → MetFlown m → ((j : ℕ) (item : Item) → 1 ≤ target_of item → FoundFlown (follow j item))
    → FoundFlown (settle m counts follow)
unfolding settle
settle_flown (ends c) counts follow met on = met
settle_flown (stands n item) counts follow met on = (met, λ e. let zero = carries_own n item 0 e in omega arith)
settle_flown (follows j item) counts follow met on = on j item met

module _ (home : Bool) (is : home ≡ true) where
  -- (M-109) "a search that would begin at 0 begins at 1"
  begins_flown : (n : ℕ) → 1 ≤ flown home n
  unfolding flown
  begins_flown n = rw is (either (λ (i : ℕ). 1 ≤ i) (eqb n 0) (λ t. omega arith) (λ t. let other = eqb-false n 0 t in omega (arith, other)))

  meets_flown : (size : ℕ) (counts : List ℕ) (rest : List Bytes) (n j : ℕ) → 1 ≤ n → MetFlown (meets home size counts rest n j)
  unfolding meets
  meets_flown size counts [] n j from = λ e. e
  meets_flown size counts (b ∷ rest) n j from =
      let item = item_in b in
      let valid = eqb (fault home flight size n j item) accepted in
      let later = meets_flown size counts rest (suc n) (suc j) (omega arith) in
      either MetFlown (not valid) (λ t e. e)
      (λ good. either MetFlown (not (is_jump item)) (λ t. from)
      (λ jumps. either MetFlown (passed_over (repeat_of item) (get_or counts j 0)) (λ t. later)
      (λ t. let target = (valid_jump home size n j item (eqb-true (fault home flight size n j item) accepted (not-false valid good)) (not-false (is_jump item) jumps)).target in
      target_flown size n (whole_of (float item.param1)) (rw is at target))))

  search_flown : (left : ℕ) (items : List Bytes) (counts : List ℕ) (n : ℕ) → 1 ≤ n → FoundFlown (search home left items counts n)
  unfolding search
  search_flown zero items counts n from =
      settle_flown (search_from home items counts n) counts (λ (j : ℕ) (item : Item). nowhere stuck) (meets_flown (length items) counts (drop n items) n (jumps_among (take n items)) from)
      (λ j item h e. e)
  search_flown (suc left) items counts n from =
      settle_flown (search_from home items counts n) counts (λ (j : ℕ) (item : Item). search home left items (counts_after counts j item) (target_of item))
      (meets_flown (length items) counts (drop n items) n (jumps_among (take n items)) from)
      (λ j item h. search_flown left items (counts_after counts j item) (target_of item) h)

-- No search stands at home, or answers with its number.
pub next_flown : (s : Shown) → s.home ≡ true → FoundFlown (next s)
unfolding next
next_flown s is =
    let n = cond s.begun (s.current + 1) s.current in
    search_flown s.home is max_followed (plan_of s flight).items s.counts (flown s.home n) (begins_flown s.home is n)

-- ---- every call

found_answer : (f : Found) → FoundFlown f → Carries (answer_of f) 0 → ⊥
found_answer (nowhere c) h = h
found_answer (found n counts c) h = h.1

act_flown : (m : Model) → m.shown.home ≡ true → (h : Heard) → Carries (command_in (act m h).answer) 0 → ⊥
unfolding act
act_flown m is (refuses outcome) e = e
act_flown m is (request from now kind q) e = subst (λ (c : Command). Carries c 0) (plain_stuck (on_message m from now kind q).answer (message_plain m from now kind q)) e
act_flown m is (expiry now kind) e = subst (λ (c : Command). Carries c 0) (plain_stuck (on_timer (upload_of m kind) m now kind).answer (timer_plain m (upload_of m kind) now kind)) e
act_flown m is command_done e = found_answer (next m.shown) (next_flown m.shown is) e

-- Whatever is stored, where item 0 is home no call is answered by a command with its number:
pub home_never_flown : (m : Model) → m.shown.home ≡ true → (c : Call) → Carries (command_in (step m c).answer) 0 → ⊥
unfolding step
home_never_flown m is c = act_flown m is (heard (in_range m) c)

-- so after every list of calls.
pub never_flown : (cs : List Call) (c : Call) → Carries (command_in (answer_to true cs c)) 0 → ⊥
never_flown cs c = home_never_flown (run (fresh true) cs) (setting true cs) c

-- ---- the current item

-- what is begun is after home
abbrev BegunFlown : Shown → Type 0
BegunFlown s = s.begun ≡ true → 1 ≤ s.current

plan_begun : (partial : Bool) (k : ℕ) (p : Plan) (s : Shown) → BegunFlown s → BegunFlown (with_plan partial k p s)
unfolding with_plan
plan_begun partial k p s h =
    either₂ (λ (at : ℕ) (begun : Bool). begun ≡ true → 1 ≤ at) (eqb k flight && not partial) (λ t e. absurd (true≢false (sym e))) (λ t. h)

empty_begun : (ks : List ℕ) (s : Shown) → BegunFlown s → BegunFlown (empty ks s)
unfolding empty emptied
empty_begun [] s h = h
empty_begun (k ∷ ks) s h = empty_begun ks (emptied k s) (plan_begun false k (record { items = []; number = (plan_of s k).number }) s h)

reach_begun : (f : Found) (s : Shown) → FoundFlown f → BegunFlown s → BegunFlown (reach f s)
unfolding reach
reach_begun (nowhere c) s after h = h
reach_begun (found n counts c) s after h = λ e. after.0

stroke_begun : (pre : List Call) (c : Call) (s : Shown) → Stroke true pre c s → BegunFlown (shown_by true pre) → BegunFlown s
unfolding put choose advance
stroke_begun pre c s (uploaded k items done) h =
    plan_begun done.task.partial k (record { items = items; number = next_number (plan_of (shown_by true pre) k).number }) (shown_by true pre) h
stroke_begun pre c s (empties ks gone) h = empty_begun ks (shown_by true pre) h
stroke_begun pre c s (chosen o now k seq sent below) h = λ e. absurd (true≢false (sym e))
stroke_begun pre c s (moved_on sent) h = reach_begun (next (shown_by true pre)) (shown_by true pre) (next_flown (shown_by true pre) (setting true pre)) h
stroke_begun pre c s nothing h = h

begun_more : (pre cs : List Call) → BegunFlown (shown_by true pre) → BegunFlown (shown_by true (pre ++ cs))
begun_more pre [] h = rw append-nil h
begun_more pre (c ∷ cs) h =
    subst (λ (l : List Call). BegunFlown (shown_by true l)) (append_assoc pre (c ∷ []) cs)
    (begun_more (pre ++ (c ∷ [])) cs (stroke_begun pre c (shown_by true (pre ++ (c ∷ []))) (only_strokes true pre c) h))

-- After every list of calls an item that is begun is after home: home is current only where nothing is begun.
pub never_begun : (cs : List Call) → (shown_by true cs).begun ≡ true → 1 ≤ (shown_by true cs).current
unfolding run
never_begun cs = begun_more [] cs (λ e. absurd (true≢false (sym e)))
