-- Refusals: only a call that is heard as a refusal is answered by one, and then nothing changes.
use Rattle.std.specs.Prelude.{ℕ, ◌≤◌, ◌≡◌, [], ◌∷◌, ◌++◌, Bool, true, false, cond, ◌&&◌, eqb, ltb}
use Rattle.std.proofs.Math.Path.{refl}
use Rattle.std.proofs.Common.{sym, ◌∙◌, true≢false, ltb-false}
use Rattle.std.proofs.Math.Bool.{not}
use Rattle.rules.specs.Limits.{flight, size_of, max_repeats, expiry_ms, store_words, accepted, short_store, out_of_range}
use Rattle.rules.specs.Payload.{Bytes}
use Rattle.rules.specs.Messages.{Station, same_station, Item, item_of}
use Rattle.rules.specs.Model.{Run, Upload, idle, running, Model, plan_of, upload_of, length_of, elapsed, expected, is_last, verdict_on, whole, whole_fault, is_others, is_own, flown}
use Rattle.rules.specs.Calls.{Call, message, timer, done, store_lent, Request, chooses, asks_list, announces, changes, clears, acknowledges, asks_item, brings, Heard, refuses, heard}
use Rattle.rules.specs.NextCommand.{stuck}
use Rattle.rules.specs.Step.{Answer, refused, silent, says, orders, is_refused, command_in, Stepped, on_count, part_ok, on_partial, on_valid_item, on_item, on_ack, on_clear, any_others, covered, on_list, on_request, on_set_current, on_known, kind_ok, on_message, on_timer}
use Rattle.rule_laws.specs.Tests.{either}

-- silence or a message: no refusal, and no command
abbrev is_plain : Answer → Bool
is_plain (refused outcome) = false
is_plain silent = true
is_plain (says reply) = true
is_plain (orders c) = false

clash : {A : Type 0} → false ≡ true → A
clash e = absurd (true≢false (sym e))

plain_answered : (a : Answer) → is_plain a ≡ true → is_refused a ≡ false
plain_answered (refused outcome) e = clash e
plain_answered silent e = refl
plain_answered (says reply) e = refl
plain_answered (orders c) e = clash e

pub plain_stuck : (a : Answer) → is_plain a ≡ true → command_in a ≡ stuck
plain_stuck (refused outcome) e = clash e
plain_stuck silent e = refl
plain_stuck (says reply) e = refl
plain_stuck (orders c) e = clash e

abbrev Answered : Stepped → Type 0
Answered s = is_plain s.answer ≡ true

module _ (m : Model) (from : Station) (now kind : ℕ) where
  count_answered : (n : ℕ) → Answered (on_count m from now kind n)
  unfolding on_count
  count_answered n =
      either Answered (is_others from (upload_of m kind)) (λ t. refl) (λ t. either Answered (ltb (size_of kind) n) (λ t. refl) (λ t. either Answered (eqb n 0) (λ t. refl) (λ t. refl)))

  part_answered : (start end : ℕ) → Answered (on_partial m from now kind start end)
  unfolding on_partial
  part_answered start end =
      either Answered (is_others from (upload_of m kind)) (λ t. refl) (λ t. either Answered (not (part_ok (length_of m.shown kind) start end)) (λ t. refl) (λ t. refl))

  valid_answered : (r : Run) (b : Bytes) → Answered (on_valid_item m from now kind r b)
  unfolding on_valid_item
  valid_answered r b =
      let verdict = whole_fault kind r.task (whole r.task (plan_of m.shown kind).items (r.taken ++ (b ∷ []))) in
      either Answered (not (is_last r)) (λ t. refl) (λ t. either Answered (eqb verdict accepted) (λ t. refl) (λ t. refl))

  item_answered : (u : Upload) (item : Item) → Answered (on_item u m from now kind item)
  unfolding on_item
  item_answered idle item = refl
  item_answered (running r) item =
      let verdict = verdict_on m.shown.home kind r.task (expected r) r.taken item in
      either Answered (not (same_station from r.station)) (λ t. refl)
      (λ t. either Answered (not (eqb item.seq (expected r))) (λ t. refl)
      (λ t. either Answered (not (eqb verdict accepted)) (λ t. refl) (λ t. valid_answered r (item_of item))))

  known_answered : (q : Request) → Answered (on_known m from now kind q)
  unfolding on_known on_set_current on_list on_request on_ack on_clear
  known_answered (chooses seq) = either Answered (ltb (flown m.shown.home seq) (length_of m.shown flight)) (λ t. refl) (λ t. refl)
  known_answered asks_list = refl
  known_answered (announces n) = count_answered n
  known_answered (changes start end) = part_answered start end
  known_answered clears = either Answered (any_others m from (covered kind)) (λ t. refl) (λ t. refl)
  known_answered (acknowledges result) = either Answered (is_own from (upload_of m kind) && not (eqb result accepted)) (λ t. refl) (λ t. refl)
  known_answered (asks_item seq) = either Answered (ltb seq (length_of m.shown kind)) (λ t. refl) (λ t. refl)
  known_answered (brings item) = item_answered (upload_of m kind) item

  pub message_plain : (q : Request) → Answered (on_message m from now kind q)
  unfolding on_message
  message_plain q = either Answered (kind_ok kind q) (λ t. known_answered q) (λ t. refl)

pub timer_plain : (m : Model) (u : Upload) (now kind : ℕ) → Answered (on_timer u m now kind)
unfolding on_timer
timer_plain m idle now kind = refl
timer_plain m (running r) now kind =
    either Answered (ltb (elapsed now r.started) expiry_ms) (λ t. refl) (λ t. either Answered (ltb r.repeats max_repeats) (λ t. refl) (λ t. refl))

pub message_answered : (m : Model) (from : Station) (now kind : ℕ) (q : Request) → is_refused (on_message m from now kind q).answer ≡ false
message_answered m from now kind q = plain_answered (on_message m from now kind q).answer (message_plain m from now kind q)

pub timer_answered : (m : Model) (u : Upload) (now kind : ℕ) → is_refused (on_timer u m now kind).answer ≡ false
timer_answered m u now kind = plain_answered (on_timer u m now kind).answer (timer_plain m u now kind)

-- a call is refused, or no number of the state is out of its range and its part of the store is long enough
pub data Room (ranged : Bool) (c : Call) : Type 0 where
  none : (outcome : ℕ) → heard ranged c ≡ refuses outcome → Room ranged c
  enough : ranged ≡ true → store_words ≤ store_lent c → Room ranged c

room_by :
    (ranged : Bool) (c : Call) (h : Heard) → heard ranged c ≡ cond (ltb (store_lent c) store_words) (refuses short_store) (cond (not ranged) (refuses out_of_range) h)
    → Room ranged c
room_by ranged c h e = go (ltb (store_lent c) store_words) ranged refl refl
  where
    go : (short t : Bool) → ltb (store_lent c) store_words ≡ short → ranged ≡ t → Room ranged c
    go true t short is = none short_store (e ∙ rw short)
    go false false long is = none out_of_range (e ∙ rw (long, is))
    go false true long is = enough is (ltb-false (store_lent c) store_words long)

pub room_or_refused : (ranged : Bool) (c : Call) → Room ranged c
unfolding heard
room_or_refused ranged (message own from id payload clock store reply) = room_by ranged (message own from id payload clock store reply) _ refl
room_or_refused ranged (timer kind clock store reply) = room_by ranged (timer kind clock store reply) _ refl
room_or_refused ranged (done store) = room_by ranged (done store) _ refl
