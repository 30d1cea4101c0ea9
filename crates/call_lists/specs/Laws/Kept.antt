-- Every call keeps the ranges, handler by handler.
use Rattle.std.specs.Prelude.{ℕ, ◌+◌, ◌-◌, ◌≤◌, ◌<◌, ◌≡◌, List, [], ◌∷◌, ◌++◌, Bool, true, false, ◌&&◌, eqb}
use Rattle.std.proofs.Common.{arith, sym, ap, ◌∙◌, true≢false}
use Rattle.std.proofs.Math.Path.{refl}
use Rattle.std.proofs.Math.Bool.{not}
use Rattle.std.proofs.Math.ListN.{length, length-append, get_or-eq_default}
use Rattle.std.proofs.Math.Dec.{leb, ltb}
use borrow.Author.Tests.{leb-true, leb-false, ltb-true, ltb-false, le-leb, lt-ltb, eqb-true, eqb-false, eq-eqb, not-false, not-true}
use Rattle.rules.specs.Limits.{flight, rally, size_of, half_short, max_repeats, expiry_ms, accepted, store_words, reply_bytes_min}
use Rattle.rules.specs.Payload.{Bytes}
use Rattle.rules.specs.Messages.{Station, same_station, Item, Message, partial_list, set_current, current, request_list, count, clear_all, ack, request_int, item_int, statustext, unknown, decode, item_of}
use Rattle.rules.specs.Model.{Plan, Run, Upload, idle, running, Model, plan_of, upload_of, length_of, fresh, next_number, elapsed, Task, whole_task, part_task, task_in_range, expected, is_last, verdict_on, whole, whole_fault, is_others, is_own, flown, put, upload_in_range, in_range}
use Rattle.rules.specs.Calls.{Call, message, timer, done, Request, chooses, asks_list, announces, changes, clears, acknowledges, asks_item, brings, Heard, refuses, request, expiry, command_done, is_known, ours_or_all, heard_message, for_us, heard}
use Rattle.rules.specs.Step.{Stepped, with_upload, opens, on_count, part_ok, on_partial, on_valid_item, on_item, on_ack, on_clear, any_others, covered, on_list, on_request, on_set_current, on_known, kind_ok, on_message, on_timer, act, step, run}
use Rattle.rule_laws.specs.Tests.{both, either}
use Rattle.rule_laws.specs.Kinds.{covered_known}
use Rattle.rule_laws.specs.Tasks.{TaskRanges, RunRanges, run_ranges}
use Rattle.call_lists.specs.Laws.Ranged.{InTurn, Formed, fresh_formed, formed_ranged, upload_formed, plan_formed, empty_formed, choose_formed}
use Rattle.call_lists.specs.Laws.Search.{advance_formed}
use Rattle.rule_laws.specs.Whole.{whole_length}

-- what the range test says of a task (`TaskRanges`) is all that it asks
ranges_task : (len : ℕ) (t : Task) (next : ℕ) → TaskRanges len t next → task_in_range len t next ≡ true
unfolding task_in_range
ranges_task len t next h = go t.partial refl
  where
    go : (b : Bool) → t.partial ≡ b → task_in_range len t next ≡ true
    go true b =
        rw (b, eq-eqb t.count len (h.part b), le-leb t.first next h.begun, le-leb next t.last h.upto) (lt-ltb t.last t.count h.inside)
    go false b =
        let upto = h.upto in
        let end = h.to_end b in
        rw (b, eq-eqb t.first 0 (h.from_start b), eq-eqb t.last (t.count - 1) (omega arith)) (lt-ltb next t.count (omega arith))

ranged_run : (kind len : ℕ) (r : Run) → RunRanges kind len r → r.repeats ≤ max_repeats → upload_in_range kind len (running r) ≡ true
unfolding upload_in_range
ranged_run kind len r h few =
    let inside = h.task.inside in
    rw (le-leb 1 r.task.count (omega arith), le-leb r.task.count (size_of kind) h.most, ranges_task len r.task (expected r) h.task) (le-leb r.repeats max_repeats few)

-- the next number, where this is not the last
next_ranges : (len : ℕ) (t : Task) (next : ℕ) → (next ≡ t.last → ⊥) → TaskRanges len t next → TaskRanges len t (next + 1)
next_ranges len t next other h =
    let begun = h.begun in
    let upto = h.upto in
    record { begun = omega arith; upto = omega (arith, other); inside = h.inside; part = h.part; from_start = h.from_start; to_end = h.to_end }

abbrev Kept : Stepped → Type 0
Kept s = Formed s.model

module _ (m : Model) (f : Formed m) (from : Station) (now kind : ℕ) (known : is_known kind ≡ true) where
  ended_kept : Formed (with_upload kind idle m)
  unfolding upload_in_range
  ended_kept = upload_formed m kind idle known refl tt f

  running_kept : (r : Run) → RunRanges kind (length_of m.shown kind) r → r.repeats ≤ max_repeats → InTurn (running r) → Formed (with_upload kind (running r) m)
  running_kept r h few turn = upload_formed m kind (running r) known (ranged_run kind (length_of m.shown kind) r h few) turn f

  -- an upload opens with its first number
  opens_kept : (t : Task) → t.count ≤ size_of kind → TaskRanges (length_of m.shown kind) t t.first → Kept (opens m from now kind t)
  opens_kept t most h =
      running_kept (record { station = from; task = t; next = t.first; taken = []; started = now; repeats = 0 }) (record { most = most; task = h }) (omega arith) (omega arith)

  count_kept : (n : ℕ) → Kept (on_count m from now kind n)
  unfolding on_count
  count_kept n =
      either Kept (is_others from (upload_of m kind)) (λ t. f)
      (λ t. either Kept (ltb (size_of kind) n) (λ t. ended_kept)
      (λ most. either Kept (eqb n 0) (λ t. empty_formed m (kind ∷ []) (rw known) f)
      (λ some. let other : n ≡ 0 → ⊥ = eqb-false n 0 some in
      opens_kept (whole_task n) (ltb-false (size_of kind) n most)
      (record { begun = omega arith; upto = omega arith; inside = omega (arith, other); part = λ e. absurd (true≢false (sym e)); from_start = λ e. refl; to_end = λ e. omega (arith, other) }))))

  part_kept : (start end : ℕ) → Kept (on_partial m from now kind start end)
  unfolding on_partial part_ok
  part_kept start end =
      let len = length_of m.shown kind in
      either Kept (is_others from (upload_of m kind)) (λ t. f)
      (λ t. either Kept (not (part_ok len start end)) (λ t. ended_kept)
      (λ ok. let short = ltb start half_short && ltb end half_short in
      let parts = both (short && leb start end) (ltb end len) (not-false (part_ok len start end) ok) in
      let order = leb-true start end (both short (leb start end) parts.0).1 in
      opens_kept (part_task len start end) (f.plan kind known)
      (record { begun = omega arith; upto = order; inside = ltb-true end len parts.1; part = λ e. refl; from_start = λ e. absurd (true≢false e); to_end = λ e. absurd (true≢false e) })))

  valid_kept : (r : Run) (b : Bytes) → RunRanges kind (length_of m.shown kind) r → InTurn (running r) → Kept (on_valid_item m from now kind r b)
  unfolding on_valid_item put
  valid_kept r b h turn =
      let len = length_of m.shown kind in
      let old = (plan_of m.shown kind).items in
      let got = r.taken ++ (b ∷ []) in
      let items = whole r.task old got in
      let longer : length got ≡ length r.taken + 1 = length-append r.taken (b ∷ []) in
      either Kept (not (is_last r))
      (λ more. running_kept (record { station = r.station; task = r.task; next = expected r + 1; taken = got; started = now; repeats = 0 })
      (record { most = h.most; task = next_ranges len r.task (expected r) (eqb-false (expected r) r.task.last (not-true (is_last r) more)) h.task }) (omega arith) (omega arith))
      (λ last. either Kept (eqb (whole_fault kind r.task items) accepted)
      (λ t. let at_last : expected r ≡ r.task.last = eqb-true (expected r) r.task.last (not-false (is_last r) last) in
      let long : length items ≡ r.task.count = whole_length r.task (expected r) old got h.task (omega arith) in
      let most = h.most in
      let p : Plan = record { items = items; number = next_number (plan_of m.shown kind).number } in
      plan_formed m r.task.partial kind p known (omega arith) (λ e. long ∙ h.task.part e) f)
      (λ t. ended_kept))

  item_kept : (u : Upload) → upload_in_range kind (length_of m.shown kind) u ≡ true → InTurn u → (item : Item) → Kept (on_item u m from now kind item)
  unfolding on_item
  item_kept idle e turn item = f
  item_kept (running r) e turn item =
      let verdict = verdict_on m.shown.home kind r.task (expected r) r.taken item in
      either Kept (not (same_station from r.station)) (λ t. f)
      (λ t. either Kept (not (eqb item.seq (expected r))) (λ t. f)
      (λ t. either Kept (not (eqb verdict accepted)) (λ t. ended_kept) (λ t. valid_kept r (item_of item) (run_ranges kind (length_of m.shown kind) r e) turn)))

  timer_kept : (u : Upload) → upload_in_range kind (length_of m.shown kind) u ≡ true → InTurn u → Kept (on_timer u m now kind)
  unfolding on_timer
  timer_kept idle e turn = f
  timer_kept (running r) e turn =
      either Kept (ltb (elapsed now r.started) expiry_ms) (λ t. f)
      (λ t. either Kept (ltb r.repeats max_repeats)
      (λ few. let h = run_ranges kind (length_of m.shown kind) r e in
      let below : r.repeats < max_repeats = ltb-true r.repeats max_repeats few in
      running_kept (record { station = r.station; task = r.task; next = r.next; taken = r.taken; started = now; repeats = r.repeats + 1 })
      (record { most = h.most; task = h.task }) (omega arith) turn)
      (λ t. ended_kept))

  ack_kept : (result : ℕ) → Kept (on_ack m from kind result)
  unfolding on_ack
  ack_kept result = either Kept (is_own from (upload_of m kind) && not (eqb result accepted)) (λ t. ended_kept) (λ t. f)

-- an ACK of an unknown kind finds no upload
pub unknown_idle : (m : Model) (kind : ℕ) → Formed m → is_known kind ≡ false → upload_of m kind ≡ idle
unknown_idle m kind f e = get_or-eq_default m.uploads idle (let more : rally < kind = leb-false kind rally e in omega (arith, f.uploads))

any_ack_kept : (m : Model) → Formed m → (from : Station) (kind result : ℕ) → Kept (on_ack m from kind result)
unfolding on_ack is_own
any_ack_kept m f from kind result = go (is_known kind) refl
  where
    go : (t : Bool) → is_known kind ≡ t → Kept (on_ack m from kind result)
    go true e = ack_kept m f from 0 kind e result
    go false e = rw (unknown_idle m kind f e) f

message_kept : (m : Model) → Formed m → (from : Station) (now kind : ℕ) (r : Request) → Kept (on_message m from now kind r)
unfolding on_message on_known on_set_current on_list on_request on_clear kind_ok
message_kept m f from now kind r = either Kept (kind_ok kind r) (go r) (λ t. f)
  where
    go : (r : Request) → kind_ok kind r ≡ true → Kept (on_known m from now kind r)
    go (chooses seq) k = either Kept (ltb (flown m.shown.home seq) (length_of m.shown flight)) (λ below. choose_formed m (flown m.shown.home seq) below f) (λ t. f)
    go asks_list k = f
    go (announces n) k = count_kept m f from now kind k n
    go (changes start end) k = part_kept m f from now kind k start end
    go clears k = either Kept (any_others m from (covered kind)) (λ t. f) (λ t. empty_formed m (covered kind) (covered_known kind k) f)
    go (acknowledges result) k = any_ack_kept m f from kind result
    go (asks_item seq) k = either Kept (ltb seq (length_of m.shown kind)) (λ t. f) (λ t. f)
    go (brings item) k = item_kept m f from now kind k (upload_of m kind) (f.upload kind k) (f.turn kind k) item

-- an expiry that is heard is of a known kind
abbrev pub HeardKnown : Heard → Type 0
HeardKnown (refuses outcome) = Unit {0}
HeardKnown (request from now kind r) = Unit {0}
HeardKnown (expiry now kind) = is_known kind ≡ true
HeardKnown command_done = Unit {0}

module _ (own from : Station) (now : ℕ) where
  for_us_known : (to : Station) (kind : ℕ) (r : Request) → HeardKnown (for_us own to (request from now kind r))
  unfolding for_us
  for_us_known to kind r = either HeardKnown (ours_or_all own.system to.system && ours_or_all own.component to.component) (λ t. tt) (λ t. tt)

  message_known : (msg : Message) → HeardKnown (heard_message own from now msg)
  unfolding heard_message
  message_known (set_current to seq) = for_us_known to flight (chooses seq)
  message_known (request_list to kind) = for_us_known to kind asks_list
  message_known (count to n kind plan_number) = for_us_known to kind (announces n)
  message_known (partial_list to start end kind) = for_us_known to kind (changes start end)
  message_known (clear_all to kind) = for_us_known to kind clears
  message_known (ack to result kind plan_number) = for_us_known to kind (acknowledges result)
  message_known (request_int to seq kind) = for_us_known to kind (asks_item seq)
  message_known (item_int to is_current item) = for_us_known to item.kind (brings item)
  message_known (current seq total state mode mission fence rally) = tt
  message_known (statustext severity text id chunk) = tt
  message_known unknown = tt

pub heard_known : (ranged : Bool) (c : Call) → HeardKnown (heard ranged c)
unfolding heard
heard_known ranged (message own from id payload clock store reply) =
    either HeardKnown (ltb store store_words) (λ t. tt)
    (λ t. either HeardKnown (not ranged) (λ t. tt)
    (λ t. either HeardKnown (ltb reply reply_bytes_min) (λ t. tt)
    (λ t. either HeardKnown (eqb (length payload) 0) (λ t. tt) (λ t. message_known own from clock (decode id payload)))))
heard_known ranged (timer kind clock store reply) =
    either HeardKnown (ltb store store_words) (λ t. tt)
    (λ t. either HeardKnown (not ranged) (λ t. tt)
    (λ t. either HeardKnown (ltb reply reply_bytes_min) (λ t. tt) (λ t. either HeardKnown (is_known kind) (λ k. k) (λ t. tt))))
heard_known ranged (done store) = either HeardKnown (ltb store store_words) (λ t. tt) (λ t. either HeardKnown (not ranged) (λ t. tt) (λ t. tt))

act_kept : (m : Model) → Formed m → (h : Heard) → HeardKnown h → Kept (act m h)
unfolding act
act_kept m f (refuses outcome) k = f
act_kept m f (request from now kind r) k = message_kept m f from now kind r
act_kept m f (expiry now kind) k = timer_kept m f (record { system = 0; component = 0 }) now kind k (upload_of m kind) (f.upload kind k) (f.turn kind k)
act_kept m f command_done k = advance_formed m f

-- every call keeps the ranges
pub step_kept : (m : Model) (c : Call) → Formed m → Formed (step m c).model
unfolding step
step_kept m c f = act_kept m f (heard (in_range m) c) (heard_known (in_range m) c)

run_kept : (m : Model) (cs : List Call) → Formed m → Formed (run m cs)
unfolding run
run_kept m [] f = f
run_kept m (c ∷ cs) f = run_kept (step m c).model cs (step_kept m c f)

-- from a fresh start every model is formed, and a step is what the call says
pub formed : (home : Bool) (cs : List Call) → Formed (run (fresh home) cs)
formed home cs = run_kept (fresh home) cs (fresh_formed home)

pub step_heard : (m : Model) (c : Call) → Formed m → step m c ≡ act m (heard true c)
unfolding step
step_heard m c f = ap (λ (t : Bool). act m (heard t c)) (formed_ranged m f)
