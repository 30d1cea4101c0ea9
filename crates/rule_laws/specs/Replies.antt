-- Every reply of the step has fields that fit, where the model and the call fit: one lemma for each handler.
use Rattle.std.specs.Prelude.{ℕ, ◌+◌, ◌≤◌, ◌<◌, ◌≡◌, refl, List, [], ◌∷◌, ◌++◌, Bool, true, false, not, cond, ◌&&◌, length, get_or}
use Rattle.std.proofs.Common.{arith}
use Rattle.std.proofs.Math.Dec.{eqb, leb, ltb}
use borrow.Author.Tests.{leb-true, ltb-true, not-false}
use Rattle.rules.specs.Limits.{flight, fence, rally, size_of, half_short, store_words, max_jumps, max_repeats, expiry_ms, byte_values, clock_values, x_limit, y_limit, accepted, no_space, invalid_sequence, denied, cancelled, unsupported}
use Rattle.rules.specs.Payload.{Bytes}
use Rattle.rules.specs.Messages.{Station, station, same_station, Item, current, count, ack, item_of}
use Rattle.rules.specs.Values.{signed, within, float, finite}
use Rattle.rules.specs.Items.{Row, commands, param_ok, frame_ok, is_jump, place_fault, room_fault, fault_in, fault_among, not_home, fault, jumps_among}
use Rattle.rules.specs.Fence.{fence_ok}
use Rattle.rules.specs.Model.{Plan, Task, Run, Upload, idle, running, Model, plan_of, upload_of, length_of, shown_number, elapsed, expected, is_last, verdict_on, whole, whole_fault, is_others, is_own, put, flown, choose, upload_in_range, in_range}
use Rattle.rules.specs.Calls.{Call, message, timer, done, Request, chooses, asks_list, announces, changes, clears, acknowledges, asks_item, brings, Heard, refuses, request, expiry, command_done, is_known, heard}
use Rattle.rules.specs.Step.{Stepped, on_count, part_ok, on_partial, on_valid_item, on_item, on_ack, on_clear, any_others, covered, on_list, on_request, on_set_current, on_known, kind_ok, on_message, on_timer, act, step}
use Rattle.rule_laws.specs.Tests.{both, either}
use Rattle.rule_laws.specs.Kinds.{size_small, ranged_kind}
use Rattle.rule_laws.specs.Tasks.{run_ranges, next_below}
use Rattle.rule_laws.specs.Written.{ack_fits, request_fits, count_fits, current_fits, item_fits, text_fits}
use Rattle.rule_laws.specs.Heard.{HeardFits, heard_fits}
use Rattle.rule_laws.specs.Fitted.{item_bytes_lem, more_bytes, whole_bytes, put_fits}
use Rattle.rule_laws.specs.Fitting.{Fits, StationFits, PlanFits, RunFits, UploadFits, ModelFits, CallFits, AnswerFits}

-- ---- numbers that are written

shown_fits : (p : Plan) → PlanFits p → shown_number (length p.items) p.number < clock_values
unfolding shown_number
shown_fits p h = either (λ (k : ℕ). k < clock_values) (eqb (length p.items) 0) (λ e. omega arith) (λ e. h.number)

-- ---- results

-- results are at most 15, so they fit
abbrev Small : ℕ → Type 0
Small n = n < byte_values

place_small : (positional : Bool) (item : Item) (rest : ℕ) → Small rest → Small (place_fault positional item rest)
unfolding place_fault
place_small false item rest h = h
place_small true item rest h =
    either Small (not (within x_limit (signed item.x))) (λ e. omega arith)
    (λ e. either Small (not (within y_limit (signed item.y))) (λ e. omega arith)
    (λ e. either Small (not (finite (float item.z))) (λ e. omega arith) (λ e. h)))

in_small : (r : Row) (n own jumps : ℕ) (item : Item) → Small (fault_in r n own jumps item)
unfolding fault_in
in_small r n own jumps item =
    either Small (not (frame_ok r.positional item.frame)) (λ e. omega arith)
    (λ e. either Small (not (param_ok r.param1 n own (float item.param1))) (λ e. omega arith)
    (λ e. either Small (not (param_ok r.param2 n own (float item.param2))) (λ e. omega arith)
    (λ e. place_small r.positional item (room_fault jumps item)
    (either Small (is_jump item && leb max_jumps jumps) (λ e. omega arith) (λ e. omega arith)))))

among_small : (rs : List Row) (kind n own jumps : ℕ) (item : Item) → Small (fault_among rs kind n own jumps item)
unfolding fault_among
among_small [] kind n own jumps item = omega arith
among_small (r ∷ rs) kind n own jumps item =
    let later = among_small rs kind n own jumps item in
    either Small (eqb r.command item.command)
    (λ e. either Small (eqb r.kind kind) (λ e. in_small r n own jumps item) (λ e. omega arith))
    (λ e. later)

fault_small : (home : Bool) (kind n own jumps : ℕ) (item : Item) → Small (fault home kind n own jumps item)
unfolding fault
fault_small home kind n own jumps item = either Small (not_home home kind own item) (λ e. omega arith) (λ e. among_small (commands home) kind n own jumps item)

verdict_small : (home : Bool) (kind : ℕ) (t : Task) (own : ℕ) (got : List Bytes) (item : Item) → Small (verdict_on home kind t own got item)
unfolding verdict_on
verdict_small home kind t own got item = fault_small home kind t.count own (cond t.partial 0 (jumps_among got)) item

whole_small : (kind : ℕ) (t : Task) (items : List Bytes) → Small (whole_fault kind t items)
unfolding whole_fault
whole_small kind t items =
    either Small (t.partial && eqb kind flight && ltb max_jumps (jumps_among items)) (λ e. omega arith)
    (λ e. either Small (eqb kind fence && not (fence_ok items)) (λ e. omega arith) (λ e. omega arith))

-- ---- the handlers

-- the expected number of an upload in its ranges
next_small : (kind len : ℕ) (r : Run) → upload_in_range kind len (running r) ≡ true → expected r < size_of flight
next_small kind len r e = omega (arith, next_below kind len r (run_ranges kind len r e), size_small kind)

abbrev Good : Stepped → Type 0
Good s = AnswerFits s.answer

module _ (m : Model) (fits : ModelFits m) (ranged : in_range m ≡ true) (from : Station) (sender : StationFits from) (kind : ℕ) (known : is_known kind ≡ true) where
  kind_small : kind < byte_values
  kind_small = let le : kind ≤ rally = leb-true kind rally known in omega arith

  acks_fit : (result : ℕ) → Small result → Fits (ack from result kind 0)
  acks_fit result h = ack_fits from result kind 0 sender h kind_small (omega arith)

  length_fits : length_of m.shown kind ≤ size_of flight
  length_fits =
      let le = (ranged_kind m ranged kind known).most in
      omega (arith, size_small kind)

  count_good : (now n : ℕ) → Good (on_count m from now kind n)
  unfolding on_count
  count_good now n =
      either Good (is_others from (upload_of m kind)) (λ e. acks_fit denied (omega arith))
      (λ e. either Good (ltb (size_of kind) n) (λ e. acks_fit no_space (omega arith))
      (λ e. either Good (eqb n 0) (λ e. acks_fit accepted (omega arith)) (λ e. request_fits from 0 kind sender (omega arith) kind_small)))

  valid_good : (now : ℕ) (r : Run) (item : Item) → RunFits r → expected r < size_of flight → Good (on_valid_item m from now kind r (item_of item))
  unfolding on_valid_item
  valid_good now r item fit h =
      let b = item_of item in
      let got = r.taken ++ (b ∷ []) in
      let items = whole r.task (plan_of m.shown kind).items got in
      let bytes = whole_bytes r.task (plan_of m.shown kind).items got (fits.plans kind).items (more_bytes r b fit (item_bytes_lem item)) in
      let all = put_fits m.shown r.task.partial kind items bytes fits.plans in
      let verdict = whole_fault kind r.task items in
      either Good (not (is_last r)) (λ e. request_fits from (expected r + 1) kind sender (omega arith) kind_small)
      (λ e. either Good (eqb verdict accepted)
      (λ e. ack_fits from accepted kind (plan_of (put r.task.partial kind items m.shown) kind).number sender (omega arith) kind_small (all kind).number)
      (λ e. acks_fit verdict (whole_small kind r.task items)))

  part_good : (now start end : ℕ) → Good (on_partial m from now kind start end)
  unfolding on_partial part_ok
  part_good now start end =
      let len = length_of m.shown kind in
      let low = ltb start half_short in
      let high = ltb end half_short in
      let order = leb start end in
      either Good (is_others from (upload_of m kind)) (λ e. acks_fit denied (omega arith))
      (λ e. either Good (not (part_ok len start end)) (λ e. acks_fit invalid_sequence (omega arith))
      (λ e. let front = (both (low && high && order) (ltb end len) (not-false (part_ok len start end) e)).0 in
      let small = ltb-true start half_short (both low high (both (low && high) order front).0).0 in
      request_fits from start kind sender (omega arith) kind_small))

  item_good : (u : Upload) → UploadFits u → upload_in_range kind (length_of m.shown kind) u ≡ true → (now : ℕ) (item : Item) → Good (on_item u m from now kind item)
  unfolding on_item
  item_good idle fit e now item = acks_fit invalid_sequence (omega arith)
  item_good (running r) fit e now item =
      let next : expected r < size_of flight = next_small kind (length_of m.shown kind) r e in
      let verdict = verdict_on m.shown.home kind r.task (expected r) r.taken item in
      either Good (not (same_station from r.station)) (λ e. acks_fit denied (omega arith))
      (λ e. either Good (not (eqb item.seq (expected r))) (λ e. request_fits from (expected r) kind sender (omega arith) kind_small)
      (λ e. either Good (not (eqb verdict accepted)) (λ e. acks_fit verdict (verdict_small m.shown.home kind r.task (expected r) r.taken item))
      (λ e. valid_good now r item fit next)))

  list_good : Good (on_list m from kind)
  unfolding on_list
  list_good = count_fits from (length_of m.shown kind) kind (shown_number (length_of m.shown kind) (plan_of m.shown kind).number) sender (omega (arith, length_fits)) kind_small (shown_fits (plan_of m.shown kind) (fits.plans kind))

  request_good : (seq : ℕ) → Good (on_request m from kind seq)
  unfolding on_request
  request_good seq =
      either Good (ltb seq (length_of m.shown kind))
      (λ e. item_fits from (cond (eqb kind flight && eqb seq m.shown.current) 1 0) (get_or (plan_of m.shown kind).items seq []) sender
      (either Small (eqb kind flight && eqb seq m.shown.current) (λ e. omega arith) (λ e. omega arith)) ((fits.plans kind).items seq))
      (λ e. acks_fit invalid_sequence (omega arith))

-- CLEAR_ALL's kind may be 255, an ACK's any byte
clear_good : (m : Model) (from : Station) (kind : ℕ) → StationFits from → kind < byte_values → Good (on_clear m from kind)
unfolding on_clear
clear_good m from kind sender small =
    either Good (any_others m from (covered kind)) (λ e. ack_fits from denied kind 0 sender (omega arith) small (omega arith))
    (λ e. ack_fits from accepted kind 0 sender (omega arith) small (omega arith))

acked_good : (m : Model) (from : Station) (kind result : ℕ) → Good (on_ack m from kind result)
unfolding on_ack
acked_good m from kind result = either Good (is_own from (upload_of m kind) && not (eqb result accepted)) (λ e. tt) (λ e. tt)

current_good : (m : Model) → ModelFits m → in_range m ≡ true → (seq : ℕ) → Good (on_set_current m seq)
unfolding on_set_current choose
current_good m fits ranged seq =
    let most : length_of m.shown flight ≤ size_of flight = (ranged_kind m ranged flight refl).most in
    let number : (kind : ℕ) → shown_number (length_of m.shown kind) (plan_of m.shown kind).number < clock_values = λ kind. shown_fits (plan_of m.shown kind) (fits.plans kind) in
    let n = flown m.shown.home seq in
    either Good (ltb n (length_of m.shown flight))
    (λ e. let below : n < length_of m.shown flight = ltb-true n (length_of m.shown flight) e in
    current_fits n (length_of m.shown flight) 0 0 _ _ _ (omega arith) (omega arith) (omega arith) (omega arith) (number flight) (number fence) (number rally))
    (λ e. text_fits)

message_good : (m : Model) (from : Station) (now kind : ℕ) (r : Request) → ModelFits m → in_range m ≡ true → StationFits from → kind < byte_values → Good (on_message m from now kind r)
unfolding on_message on_known kind_ok
message_good m from now kind r fits ranged sender small =
    either Good (kind_ok kind r) (known r) (λ e. ack_fits from unsupported kind 0 sender (omega arith) small (omega arith))
  where
    known : (r : Request) → kind_ok kind r ≡ true → Good (on_known m from now kind r)
    known (chooses seq) k = current_good m fits ranged seq
    known asks_list k = list_good m fits ranged from sender kind k
    known (announces n) k = count_good m fits ranged from sender kind k now n
    known (changes start end) k = part_good m fits ranged from sender kind k now start end
    known clears k = clear_good m from kind sender small
    known (acknowledges result) k = acked_good m from kind result
    known (asks_item seq) k = request_good m fits ranged from sender kind k seq
    known (brings item) k =
        item_good m fits ranged from sender kind k (upload_of m kind) (fits.uploads kind) (ranged_kind m ranged kind k).upload now item

timer_good : (m : Model) (u : Upload) (now kind len : ℕ) → UploadFits u → upload_in_range kind len u ≡ true → kind < byte_values → Good (on_timer u m now kind)
unfolding on_timer
timer_good m idle now kind len fits e small = tt
timer_good m (running r) now kind len fits e small =
    let next : expected r < size_of flight = next_small kind len r e in
    either Good (ltb (elapsed now r.started) expiry_ms) (λ e. tt)
    (λ e. either Good (ltb r.repeats max_repeats) (λ e. request_fits r.station (expected r) kind fits.station (omega arith) small)
    (λ e. ack_fits r.station cancelled kind 0 fits.station (omega arith) small (omega arith)))

-- ---- every call

act_good : (m : Model) (h : Heard) → ModelFits m → in_range m ≡ true → HeardFits h → Good (act m h)
unfolding act
act_good m (refuses outcome) fits ranged h = tt
act_good m (request from now kind r) fits ranged h = message_good m from now kind r fits ranged h.0 h.1
act_good m (expiry now kind) fits ranged h =
    let le : kind ≤ rally = leb-true kind rally h.0 in
    timer_good m (upload_of m kind) now kind (length_of m.shown kind) (fits.uploads kind) (ranged_kind m ranged kind h.0).upload (omega arith)
act_good m command_done fits ranged h = tt

-- with a number out of its range every call is refused
unranged_good : (m : Model) (c : Call) → Good (act m (heard false c))
unfolding act heard
unranged_good m (message own from id payload clock store reply) = either (λ (h : Heard). Good (act m h)) (ltb store store_words) (λ e. tt) (λ e. tt)
unranged_good m (timer kind clock store reply) = either (λ (h : Heard). Good (act m h)) (ltb store store_words) (λ e. tt) (λ e. tt)
unranged_good m (done store) = either (λ (h : Heard). Good (act m h)) (ltb store store_words) (λ e. tt) (λ e. tt)

pub replies_fit : (m : Model) (c : Call) → ModelFits m → CallFits c → AnswerFits (step m c).answer
unfolding step
replies_fit m c fits call = go (in_range m) refl
  where
    go : (t : Bool) → in_range m ≡ t → Good (act m (heard (in_range m) c))
    go true e = act_good m (heard (in_range m) c) fits e (heard_fits (in_range m) c call)
    go false e = rw e (unranged_good m c)
