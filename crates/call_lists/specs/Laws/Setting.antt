-- No call changes the setting: (M-109) "demand 3 has it fixed for the whole run".
use Rattle.std.specs.Prelude.{ℕ, ◌≡◌, List, [], ◌∷◌, ◌++◌, Bool, ◌&&◌, eqb, ltb}
use Rattle.std.proofs.Math.Path.{refl}
use Rattle.std.proofs.Common.{◌∙◌}
use Rattle.std.proofs.Math.Bool.{not}
use Rattle.rules.specs.Limits.{flight, size_of, max_repeats, expiry_ms, accepted}
use Rattle.rules.specs.Payload.{Bytes}
use Rattle.rules.specs.Messages.{Station, same_station, Item, item_of}
use Rattle.rules.specs.Model.{Run, Upload, idle, running, Shown, Model, plan_of, upload_of, length_of, fresh, elapsed, expected, is_last, verdict_on, whole, whole_fault, is_others, is_own, with_plan, put, emptied, empty, flown, choose, in_range}
use Rattle.rules.specs.NextCommand.{Found, nowhere, found, next, reach, advance}
use Rattle.rules.specs.Calls.{Call, Request, chooses, asks_list, announces, changes, clears, acknowledges, asks_item, brings, Heard, refuses, request, expiry, command_done, heard}
use Rattle.rules.specs.Step.{Stepped, on_count, part_ok, on_partial, on_valid_item, on_item, on_ack, on_clear, any_others, covered, on_list, on_request, on_set_current, on_known, kind_ok, on_message, on_timer, act, step, run}
use Rattle.rule_laws.specs.Tests.{either}

empty_home : (ks : List ℕ) (s : Shown) → (empty ks s).home ≡ s.home
unfolding empty emptied with_plan
empty_home [] s = refl
empty_home (k ∷ ks) s = empty_home ks (emptied k s)

reach_home : (f : Found) (s : Shown) → (reach f s).home ≡ s.home
unfolding reach
reach_home (nowhere c) s = refl
reach_home (found n counts c) s = refl

module _ (m : Model) where
  abbrev Same : Stepped → Type 0
  Same s = s.model.shown.home ≡ m.shown.home

  module _ (from : Station) (now kind : ℕ) where
    count_home : (n : ℕ) → Same (on_count m from now kind n)
    unfolding on_count
    count_home n =
        either Same (is_others from (upload_of m kind)) (λ t. refl)
        (λ t. either Same (ltb (size_of kind) n) (λ t. refl) (λ t. either Same (eqb n 0) (λ t. empty_home (kind ∷ []) m.shown) (λ t. refl)))

    part_home : (start end : ℕ) → Same (on_partial m from now kind start end)
    unfolding on_partial
    part_home start end =
        either Same (is_others from (upload_of m kind)) (λ t. refl) (λ t. either Same (not (part_ok (length_of m.shown kind) start end)) (λ t. refl) (λ t. refl))

    valid_home : (r : Run) (b : Bytes) → Same (on_valid_item m from now kind r b)
    unfolding on_valid_item put with_plan
    valid_home r b =
        let verdict = whole_fault kind r.task (whole r.task (plan_of m.shown kind).items (r.taken ++ (b ∷ []))) in
        either Same (not (is_last r)) (λ t. refl) (λ t. either Same (eqb verdict accepted) (λ t. refl) (λ t. refl))

    item_home : (u : Upload) (item : Item) → Same (on_item u m from now kind item)
    unfolding on_item
    item_home idle item = refl
    item_home (running r) item =
        let verdict = verdict_on m.shown.home kind r.task (expected r) r.taken item in
        either Same (not (same_station from r.station)) (λ t. refl)
        (λ t. either Same (not (eqb item.seq (expected r))) (λ t. refl) (λ t. either Same (not (eqb verdict accepted)) (λ t. refl) (λ t. valid_home r (item_of item))))

    known_home : (q : Request) → Same (on_known m from now kind q)
    unfolding on_known on_set_current on_list on_request on_ack on_clear choose
    known_home (chooses seq) = either Same (ltb (flown m.shown.home seq) (length_of m.shown flight)) (λ t. refl) (λ t. refl)
    known_home asks_list = refl
    known_home (announces n) = count_home n
    known_home (changes start end) = part_home start end
    known_home clears = either Same (any_others m from (covered kind)) (λ t. refl) (λ t. empty_home (covered kind) m.shown)
    known_home (acknowledges result) = either Same (is_own from (upload_of m kind) && not (eqb result accepted)) (λ t. refl) (λ t. refl)
    known_home (asks_item seq) = either Same (ltb seq (length_of m.shown kind)) (λ t. refl) (λ t. refl)
    known_home (brings item) = item_home (upload_of m kind) item

    message_home : (q : Request) → Same (on_message m from now kind q)
    unfolding on_message
    message_home q = either Same (kind_ok kind q) (λ t. known_home q) (λ t. refl)

  timer_home : (u : Upload) (now kind : ℕ) → Same (on_timer u m now kind)
  unfolding on_timer
  timer_home idle now kind = refl
  timer_home (running r) now kind =
      either Same (ltb (elapsed now r.started) expiry_ms) (λ t. refl) (λ t. either Same (ltb r.repeats max_repeats) (λ t. refl) (λ t. refl))

  act_home : (h : Heard) → Same (act m h)
  unfolding act advance
  act_home (refuses outcome) = refl
  act_home (request from now kind q) = message_home from now kind q
  act_home (expiry now kind) = timer_home (upload_of m kind) now kind
  act_home command_done = reach_home (next m.shown) m.shown

  -- no call changes it
  pub step_home : (c : Call) → (step m c).model.shown.home ≡ m.shown.home
  unfolding step
  step_home c = act_home (heard (in_range m) c)

pub run_home : (m : Model) (cs : List Call) → (run m cs).shown.home ≡ m.shown.home
unfolding run
run_home m [] = refl
run_home m (c ∷ cs) = run_home (step m c).model cs ∙ step_home m c

-- After every list of calls the setting is the one "chosen at the fresh start".
pub setting : (home : Bool) (cs : List Call) → (run (fresh home) cs).shown.home ≡ home
setting home cs = run_home (fresh home) cs
