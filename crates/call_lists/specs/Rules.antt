-- Demand 3 over the rules alone: what every list of calls from a fresh start makes of the model.
use Rattle.std.specs.Prelude.{ℕ, ◌≤◌, ◌<◌, ◌≡◌, List, [], ◌∷◌, ◌++◌, Bool, cond, ◌&&◌, length, ltb}
use Rattle.std.proofs.Common.{arith, ◌∙◌, true≢false}
use Rattle.std.proofs.Math.Path.{refl, sym, ap, subst}
use Rattle.std.proofs.Math.Bool.{true, false, not}
use Rattle.std.proofs.Math.Dec.{eqb}
use borrow.Author.Tests.{eqb-true, eq-eqb, ne_eqb, leb-true, le-leb, ltb-true, le-ltb, lt-ltb, not-false}
use Rattle.rules.specs.Limits.{flight, rally, kinds, every_kind, size_of, half_short, accepted, denied, out_of_range, store_words, reply_bytes_min, max_repeats, expiry_ms}
use Rattle.rules.specs.Payload.{Bytes}
use Rattle.rules.specs.Messages.{Station, same_station, Item, Message, partial_list, set_current, current, request_list, count, clear_all, ack, request_int, item_int, statustext, unknown, decode, item_of}
use Rattle.rules.specs.Model.{Run, Upload, idle, running, Shown, Model, upload_of, length_of, fresh, elapsed, Task, plan_of, expected, is_last, verdict_on, whole, whole_fault, is_others, is_own, put, empty, flown}
use Rattle.rules.specs.Calls.{Call, message, timer, done, ours_or_all, for_us, heard_message, heard, Request, chooses, asks_list, announces, changes, clears, acknowledges, asks_item, brings, Heard, refuses, request, expiry, command_done, is_known}
use Rattle.rules.specs.Step.{Answer, refused, silent, says, orders, is_refused, Stepped, on_count, part_ok, on_partial, on_valid_item, on_item, on_ack, on_clear, any_others, covered, on_list, on_request, on_set_current, on_known, kind_ok, on_message, on_timer, act, run}
use Rattle.rule_laws.specs.Tests.{either}
use Rattle.rule_laws.specs.Refused.{message_answered, timer_answered}
use Rattle.call_lists.specs.Uploads.{shown_by, answer_to, hears, let_in, Starts, Open, Alone, Completes, Empties, by_count, by_clear, by_clear_all, Stroke, uploaded, emptied, chosen, moved_on, nothing}
use Rattle.call_lists.specs.Laws.Lists.{run_snoc, same_self, same_station_lem}
use Rattle.call_lists.specs.Laws.Turns.{no, or_left, start_denied}
use Rattle.rule_laws.specs.Kinds.{size_small}
use Rattle.call_lists.specs.Laws.Kept.{formed}
use Rattle.call_lists.specs.Laws.Setting.{setting}
use Rattle.call_lists.specs.Tracks.{one_more, told_run, in_turn_lem, open_runs, runs_open}

-- ---- what one call makes of a model

-- the last item of a running upload
completes_model :
    (m : Model) (k : ℕ) (r : Run) → is_known k ≡ true → upload_of m k ≡ running r → (now : ℕ) (item : Item) → item.seq ≡ expected r
    → verdict_on m.shown.home k r.task (expected r) r.taken item ≡ accepted → expected r ≡ r.task.last
    → whole_fault k r.task (whole r.task (plan_of m.shown k).items (r.taken ++ (item_of item ∷ []))) ≡ accepted
    → (act m (request r.station now k (brings item))).model.shown ≡ put r.task.partial k (whole r.task (plan_of m.shown k).items (r.taken ++ (item_of item ∷ []))) m.shown
unfolding act on_message on_known kind_ok on_item on_valid_item
completes_model m k r known runs now item turn valid last ok =
    rw (known, runs, same_self r.station, eq-eqb item.seq (expected r) turn, valid, eq-eqb (expected r) r.task.last last, ok)

-- an empty upload at its count, an allowed clear
count_empties : (m : Model) (o : Station) (now k : ℕ) → let_in (act m (request o now k (announces 0))).answer ≡ true → (act m (request o now k (announces 0))).model.shown ≡ empty (k ∷ []) m.shown
unfolding act on_message on_known kind_ok on_count
count_empties m o now k =
    either P (is_known k) (λ known. either P (is_others o (upload_of m k)) (λ t e. no e) (λ t. either P (ltb (size_of k) 0) (λ t e. no e) (λ t e. refl))) (λ t e. no e)
  where
    P : Stepped → Type 0
    P s = let_in s.answer ≡ true → s.model.shown ≡ empty (k ∷ []) m.shown

clear_empties :
    (m : Model) (o : Station) (now j : ℕ) → let_in (act m (request o now j clears)).answer ≡ true
    → (act m (request o now j clears)).model.shown ≡ empty (covered j) m.shown
unfolding act on_message on_known kind_ok on_clear
clear_empties m o now j =
    either P (kind_ok j clears) (λ ok. either P (any_others m o (covered j)) (λ t e. no e) (λ t e. refl)) (λ t e. no e)
  where
    P : Stepped → Type 0
    P s = let_in s.answer ≡ true → s.model.shown ≡ empty (covered j) m.shown

-- a fitting COUNT, where no other station uploads the kind
count_let_in :
    (m : Model) (o : Station) (now k n : ℕ) → is_known k ≡ true → n ≤ size_of k → is_others o (upload_of m k) ≡ false
    → let_in (act m (request o now k (announces n))).answer ≡ true
unfolding act on_message on_known kind_ok on_count
count_let_in m o now k n known fits mine =
    rw (known, mine, le-ltb (size_of k) n fits) (either (λ (s : Stepped). let_in s.answer ≡ true) (eqb n 0) (λ t. refl) (λ t. refl))

-- (M-108) "After COUNT's rule on running uploads, needs 0 <= start <= end < length"
part_let_in :
    (m : Model) (o : Station) (now k start end : ℕ) → is_known k ≡ true → length_of m.shown k ≤ size_of k → start ≤ end → end < length_of m.shown k
    → is_others o (upload_of m k) ≡ false → let_in (act m (request o now k (changes start end))).answer ≡ true
unfolding act on_message on_known kind_ok on_partial part_ok
part_let_in m o now k start end known most order below mine =
    let small = size_small k in
    rw (known, mine, lt-ltb start half_short (omega arith), lt-ltb end half_short (omega arith), le-leb start end order, lt-ltb end (length_of m.shown k) below)

-- ---- a call is refused with 15 for a number out of its range alone

-- a refusal that is not 15
abbrev Within : Heard → Type 0
Within (refuses outcome) = eqb outcome out_of_range ≡ false
Within (request from now kind r) = Unit {0}
Within (expiry now kind) = Unit {0}
Within command_done = Unit {0}

module _ (own from : Station) (now : ℕ) where
  for_us_within : (to : Station) (kind : ℕ) (r : Request) → Within (for_us own to (request from now kind r))
  unfolding for_us
  for_us_within to kind r = either Within (ours_or_all own.system to.system && ours_or_all own.component to.component) (λ t. tt) (λ t. refl)

  message_within : (msg : Message) → Within (heard_message own from now msg)
  unfolding heard_message
  message_within (set_current to seq) = for_us_within to flight (chooses seq)
  message_within (request_list to kind) = for_us_within to kind asks_list
  message_within (count to n kind plan_number) = for_us_within to kind (announces n)
  message_within (partial_list to start end kind) = for_us_within to kind (changes start end)
  message_within (clear_all to kind) = for_us_within to kind clears
  message_within (ack to result kind plan_number) = for_us_within to kind (acknowledges result)
  message_within (request_int to seq kind) = for_us_within to kind (asks_item seq)
  message_within (item_int to is_current item) = for_us_within to item.kind (brings item)
  message_within (current seq total state mode mission fence rally) = refl
  message_within (statustext severity text id chunk) = refl
  message_within unknown = refl

hears_within : (c : Call) → Within (hears c)
unfolding heard
hears_within (message own from id payload clock store reply) =
    either Within (ltb store store_words) (λ t. refl)
    (λ t. either Within (ltb reply reply_bytes_min) (λ t. refl)
    (λ t. either Within (eqb (length payload) 0) (λ t. refl) (λ t. message_within own from clock (decode id payload))))
hears_within (timer kind clock store reply) =
    either Within (ltb store store_words) (λ t. refl)
    (λ t. either Within (ltb reply reply_bytes_min) (λ t. refl) (λ t. either Within (is_known kind) (λ t. tt) (λ t. refl)))
hears_within (done store) = either Within (ltb store store_words) (λ t. refl) (λ t. tt)

-- an answer that is no refusal with 15
abbrev AnswerWithin : Answer → Type 0
AnswerWithin (refused outcome) = eqb outcome out_of_range ≡ false
AnswerWithin silent = Unit {0}
AnswerWithin (says reply) = Unit {0}
AnswerWithin (orders c) = Unit {0}

answered_within : (a : Answer) → is_refused a ≡ false → AnswerWithin a
answered_within (refused outcome) e = no (sym e)
answered_within silent e = tt
answered_within (says reply) e = tt
answered_within (orders c) e = tt

act_within : (m : Model) (h : Heard) → Within h → AnswerWithin (act m h).answer
unfolding act
act_within m (refuses outcome) w = w
act_within m (request from now kind q) w = answered_within (on_message m from now kind q).answer (message_answered m from now kind q)
act_within m (expiry now kind) w = answered_within (on_timer (upload_of m kind) m now kind).answer (timer_answered m (upload_of m kind) now kind)
act_within m command_done w = tt

-- ---- every list of calls, over the setting

module _ (home : Bool) where
  -- what is shown after one more call
  shown_after : (pre : List Call) (c : Call) → shown_by home (pre ++ (c ∷ [])) ≡ (act (run (fresh home) pre) (hears c)).model.shown
  shown_after pre c = ap (λ (m : Model). m.shown) (run_snoc (fresh home) pre c) ∙ ap (λ (s : Stepped). s.model.shown) (one_more home pre c)

  -- the answer to one more call
  pub answer_heard : (pre : List Call) (c : Call) (h : Heard) → hears c ≡ h → answer_to home pre c ≡ (act (run (fresh home) pre) h).answer
  answer_heard pre c h e = ap (λ (s : Stepped). s.answer) (one_more home pre c) ∙ ap (λ (g : Heard). (act (run (fresh home) pre) g).answer) e

  -- ---- a completed upload takes effect

  pub takes_effect_lem :
      (pre : List Call) (c : Call) (k : ℕ) (items : List Bytes) (d : Completes home pre c k items) → shown_by home (pre ++ (c ∷ [])) ≡ put d.task.partial k items (shown_by home pre)
  takes_effect_lem pre c k items completed =
      let r = told_run completed.o completed.task completed.got completed.started completed.repeats in
      let was = open_runs home completed.upload in
      let ok = subst (λ (l : List Bytes). whole_fault k completed.task l ≡ accepted) completed.all completed.passes in
      shown_after pre c
      ∙ ap (λ (h : Heard). (act (run (fresh home) pre) h).model.shown) completed.sent
      ∙ completes_model (run (fresh home) pre) k r was.known was.upload completed.now completed.item completed.in_turn (rw (setting home pre) completed.valid) completed.last ok
      ∙ ap (λ (l : List Bytes). put completed.task.partial k l (shown_by home pre)) (sym completed.all)

  -- ---- an empty upload at its count, an allowed clear

  -- what one more call shows, where the call is heard as h and let in
  after_let_in :
      (pre : List Call) (c : Call) (h : Heard) (s : Shown) → hears c ≡ h → let_in (answer_to home pre c) ≡ true
      → (let_in (act (run (fresh home) pre) h).answer ≡ true → (act (run (fresh home) pre) h).model.shown ≡ s) → shown_by home (pre ++ (c ∷ [])) ≡ s
  after_let_in pre c h s sent in_it f =
      let heard_in : let_in (act (run (fresh home) pre) (hears c)).answer ≡ true = subst (λ (t : Stepped). let_in t.answer ≡ true) (one_more home pre c) in_it in
      shown_after pre c
      ∙ ap (λ (g : Heard). (act (run (fresh home) pre) g).model.shown) sent
      ∙ f (subst (λ (g : Heard). let_in (act (run (fresh home) pre) g).answer ≡ true) sent heard_in)

  pub empties_effect : (pre : List Call) (c : Call) (ks : List ℕ) → Empties home pre c ks → shown_by home (pre ++ (c ∷ [])) ≡ empty ks (shown_by home pre)
  empties_effect pre c ks (by_count k o now sent in_it) =
      after_let_in pre c (request o now k (announces 0)) (empty (k ∷ []) (shown_by home pre)) sent in_it (count_empties (run (fresh home) pre) o now k)
  empties_effect pre c ks (by_clear k o now sent known in_it) =
      let single : covered k ≡ k ∷ [] = ap (λ (t : Bool). cond t kinds (k ∷ [])) (ne_eqb k every_kind (λ e. omega arith)) in
      after_let_in pre c (request o now k clears) (empty (k ∷ []) (shown_by home pre)) sent in_it
      (λ e. clear_empties (run (fresh home) pre) o now k e ∙ ap (λ (l : List ℕ). empty l (shown_by home pre)) single)
  empties_effect pre c ks (by_clear_all o now sent in_it) =
      after_let_in pre c (request o now every_kind clears) (empty kinds (shown_by home pre)) sent in_it (clear_empties (run (fresh home) pre) o now every_kind)

  -- ---- nothing else changes what is shown

  module _ (pre : List Call) (c : Call) where
    abbrev m : Model
    m = run (fresh home) pre

    -- a way that the step may end in
    abbrev Way : Stepped → Type 0
    Way s = s ≡ act m (hears c) → Stroke home pre c s.model.shown

    in_it_by : (s : Stepped) → s ≡ act m (hears c) → let_in s.answer ≡ true → let_in (answer_to home pre c) ≡ true
    in_it_by s e h = ap (λ (t : Stepped). let_in t.answer) (one_more home pre c) ∙ sym (ap (λ (t : Stepped). let_in t.answer) e) ∙ h

    module _ (o : Station) (now k : ℕ) where
      count_way : (n : ℕ) → hears c ≡ request o now k (announces n) → Way (on_count m o now k n)
      unfolding on_count
      count_way n sent =
          either Way (is_others o (upload_of m k)) (λ t w. nothing)
          (λ t. either Way (ltb (size_of k) n) (λ t w. nothing)
          (λ t. either Way (eqb n 0)
          (λ zero w. emptied (k ∷ []) (by_count k o now (sent ∙ ap (λ (i : ℕ). request o now k (announces i)) (eqb-true n 0 zero)) (in_it_by _ w refl)))
          (λ t w. nothing)))

      clear_way : hears c ≡ request o now k clears → kind_ok k clears ≡ true → Way (on_clear m o k)
      unfolding on_clear kind_ok
      clear_way sent ok =
          either Way (any_others m o (covered k)) (λ t w. nothing) (λ t w. cleared (in_it_by _ w refl) (eqb k every_kind) refl)
        where
          cleared : let_in (answer_to home pre c) ≡ true → (t : Bool) → eqb k every_kind ≡ t → Stroke home pre c (empty (cond (eqb k every_kind) kinds (k ∷ [])) (shown_by home pre))
          cleared in_it true t =
              rw t (emptied kinds (by_clear_all o now (sent ∙ ap (λ (i : ℕ). request o now i clears) (eqb-true k every_kind t)) in_it))
          cleared in_it false t =
              rw t (emptied (k ∷ []) (by_clear k o now sent (leb-true k rally (or_left (is_known k) (eqb k every_kind) t ok)) in_it))

      part_way : (start end : ℕ) → Way (on_partial m o now k start end)
      unfolding on_partial
      part_way start end =
          either Way (is_others o (upload_of m k)) (λ t w. nothing) (λ t. either Way (not (part_ok (length_of m.shown k) start end)) (λ t w. nothing) (λ t w. nothing))

      valid_way :
          (known : is_known k ≡ true) (r : Run) (item : Item) → upload_of m k ≡ running r → o ≡ r.station → hears c ≡ request o now k (brings item) → item.seq ≡ expected r
          → verdict_on m.shown.home k r.task (expected r) r.taken item ≡ accepted → Way (on_valid_item m o now k r (item_of item))
      unfolding on_valid_item
      valid_way known r item runs own sent turn valid =
          let items = whole r.task (plan_of m.shown k).items (r.taken ++ (item_of item ∷ [])) in
          let verdict = whole_fault k r.task items in
          let e = in_turn_lem home k known pre r runs in
          either Way (not (is_last r)) (λ t w. nothing)
          (λ last. either Way (eqb verdict accepted)
          (λ ok w. uploaded k items
          (record {
            o = r.station;
            task = r.task;
            got = r.taken;
            started = r.started;
            repeats = r.repeats;
            now = now;
            item = item;
            upload = runs_open home k known pre r runs;
            sent = sent ∙ ap (λ (s : Station). request s now k (brings item)) own;
            in_turn = turn ∙ e;
            valid = subst (λ (i : ℕ). verdict_on home k r.task i r.taken item ≡ accepted) e (rw (setting home pre) at valid);
            last = sym e ∙ eqb-true (expected r) r.task.last (not-false (is_last r) last);
            passes = eqb-true verdict accepted ok;
            all = refl;
          }))
          (λ t w. nothing))

      item_way : (known : is_known k ≡ true) (u : Upload) → upload_of m k ≡ u → (item : Item) → hears c ≡ request o now k (brings item) → Way (on_item u m o now k item)
      unfolding on_item
      item_way known idle runs item sent = λ w. nothing
      item_way known (running r) runs item sent =
          let verdict = verdict_on m.shown.home k r.task (expected r) r.taken item in
          either Way (not (same_station o r.station)) (λ t w. nothing)
          (λ own. either Way (not (eqb item.seq (expected r))) (λ t w. nothing)
          (λ turn. either Way (not (eqb verdict accepted)) (λ t w. nothing)
          (λ valid. valid_way known r item runs (same_station_lem o r.station (not-false (same_station o r.station) own)) sent
          (eqb-true item.seq (expected r) (not-false (eqb item.seq (expected r)) turn)) (eqb-true verdict accepted (not-false (eqb verdict accepted) valid)))))

      choose_way : (seq : ℕ) → hears c ≡ request o now k (chooses seq) → Way (on_set_current m seq)
      unfolding on_set_current
      choose_way seq sent =
          let n = flown m.shown.home seq in
          let same : n ≡ flown home seq = ap (λ (b : Bool). flown b seq) (setting home pre) in
          either Way (ltb n (length_of m.shown flight))
          (λ below w. rw same (chosen o now k seq sent (rw same at (ltb-true n (length_of m.shown flight) below))))
          (λ t w. nothing)

      known_way : (q : Request) → hears c ≡ request o now k q → kind_ok k q ≡ true → Way (on_known m o now k q)
      unfolding on_known on_list on_request on_ack kind_ok
      known_way (chooses seq) sent ok = choose_way seq sent
      known_way asks_list sent ok = λ w. nothing
      known_way (announces n) sent ok = count_way n sent
      known_way (changes start end) sent ok = part_way start end
      known_way clears sent ok = clear_way sent ok
      known_way (acknowledges result) sent ok = either Way (is_own o (upload_of m k) && not (eqb result accepted)) (λ t w. nothing) (λ t w. nothing)
      known_way (asks_item seq) sent ok = either Way (ltb seq (length_of m.shown k)) (λ t w. nothing) (λ t w. nothing)
      known_way (brings item) sent ok = item_way ok (upload_of m k) refl item sent

      message_way : (q : Request) → hears c ≡ request o now k q → Way (act m (request o now k q))
      unfolding act on_message
      message_way q sent = either Way (kind_ok k q) (known_way q sent) (λ t w. nothing)

    timer_way : (u : Upload) (now k : ℕ) → Way (on_timer u m now k)
    unfolding on_timer
    timer_way idle now k = λ w. nothing
    timer_way (running r) now k =
        either Way (ltb (elapsed now r.started) expiry_ms) (λ t w. nothing) (λ t. either Way (ltb r.repeats max_repeats) (λ t w. nothing) (λ t w. nothing))

    heard_way : (h : Heard) → hears c ≡ h → Way (act m h)
    unfolding act
    heard_way (refuses outcome) sent = λ w. nothing
    heard_way (request o now k q) sent = message_way o now k q sent
    heard_way (expiry now k) sent = timer_way (upload_of m k) now k
    heard_way command_done sent = λ w. moved_on sent

    -- what is shown changes only by a completed upload, an allowed clear or empty count, an accepted choice or an advance
    pub only_strokes : Stroke home pre c (shown_by home (pre ++ (c ∷ [])))
    only_strokes = subst (Stroke home pre c) (sym (shown_after pre c)) (heard_way (hears c) refl refl)

  -- ---- 15 never comes up

  pub never_out_of_range : (pre : List Call) (c : Call) → answer_to home pre c ≡ refused out_of_range → ⊥
  never_out_of_range pre c e =
      true≢false
      (subst AnswerWithin (sym (ap (λ (s : Stepped). s.answer) (one_more home pre c)) ∙ e) (act_within (run (fresh home) pre) (hears c) (hears_within c)))

  -- ---- a fitting COUNT or 38 is let in unless another station's upload of the kind is open, and is denied then

  alone_mine : (k : ℕ) (o : Station) (pre : List Call) → is_known k ≡ true → Alone home k o pre → is_others o (upload_of (run (fresh home) pre) k) ≡ false
  unfolding is_others
  alone_mine k o pre known alone = mine (upload_of (run (fresh home) pre) k) refl
    where
      mine : (u : Upload) → upload_of (run (fresh home) pre) k ≡ u → is_others o (upload_of (run (fresh home) pre) k) ≡ false
      mine idle e = rw e
      mine (running r) e =
          let own : r.station ≡ o = alone r.station r.task r.taken r.started r.repeats (runs_open home k known pre r e) in
          rw (e, own, same_self o)

  pub lets_in_lem :
      (pre : List Call) (c : Call) (k : ℕ) (o : Station) (now n : ℕ) → hears c ≡ request o now k (announces n) → k ≤ rally → n ≤ size_of k → Alone home k o pre
      → let_in (answer_to home pre c) ≡ true
  lets_in_lem pre c k o now n sent small fits alone =
      ap let_in (answer_heard pre c (request o now k (announces n)) sent)
      ∙ count_let_in (run (fresh home) pre) o now k n (le-leb k rally small) fits (alone_mine k o pre (le-leb k rally small) alone)

  pub lets_part_in_lem :
      (pre : List Call) (c : Call) (k : ℕ) (o : Station) (now start end : ℕ) → hears c ≡ request o now k (changes start end) → k ≤ rally → start ≤ end
      → end < length_of (shown_by home pre) k → Alone home k o pre → let_in (answer_to home pre c) ≡ true
  lets_part_in_lem pre c k o now start end sent small order below alone =
      let known = le-leb k rally small in
      ap let_in (answer_heard pre c (request o now k (changes start end)) sent)
      ∙ part_let_in (run (fresh home) pre) o now k start end known ((formed home pre).plan k known) order below (alone_mine k o pre known alone)

  -- another station than the one whose upload is open
  pub others_open :
      {k : ℕ} {o : Station} {t : Task} {pre : List Call} {got : List Bytes} {started repeats : ℕ} (o' : Station) → Open home k o t pre got started repeats → (o' ≡ o → ⊥)
      → is_others o' (upload_of (run (fresh home) pre) k) ≡ true
  unfolding is_others
  others_open {o = o} o' up other = rw (open_runs home up).upload (apart (same_station o' o) refl)
    where
      apart : (t : Bool) → same_station o' o ≡ t → not (same_station o' o) ≡ true
      apart true t = absurd (other (same_station_lem o' o t))
      apart false t = rw t

  -- a COUNT or a 38 of another station is denied
  pub denies :
      (pre : List Call) (c : Call) (k : ℕ) (o o' : Station) (t : Task) (q : Request) (got : List Bytes) (started repeats now : ℕ) → Open home k o t pre got started repeats
      → (o' ≡ o → ⊥) → Starts q → hears c ≡ request o' now k q → answer_to home pre c ≡ says (ack o' denied k 0)
  denies pre c k o o' t q got started repeats now up other starts sent =
      answer_heard pre c (request o' now k q) sent
      ∙ ap (λ (s : Stepped). s.answer) (start_denied (run (fresh home) pre) o' now k q starts (open_runs home up).known (others_open o' up other))
