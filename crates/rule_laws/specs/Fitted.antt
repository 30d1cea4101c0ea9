-- The fresh model fits (numbers of 32 bits, stations of bytes, items of bytes), and a step with a call that fits keeps that.
use Rattle.std.specs.Prelude.{ℕ, zero, suc, ◌+◌, ◌<◌, ◌≡◌, List, [], ◌∷◌, ◌++◌, Bool, true, false, ◌&&◌, get_or, set, take, drop, eqb, ltb}
use Rattle.std.proofs.Common.{arith, subst}
use Rattle.std.proofs.Math.Bool.{not}
use Rattle.std.proofs.lemmas.Bool.{eqb-false}
use Rattle.rules.specs.Limits.{flight, size_of, max_repeats, expiry_ms, clock_values, last_number, accepted}
use Rattle.rules.specs.Payload.{Bytes}
use Rattle.rules.specs.Layouts.{layout_of, item_int_id}
use Rattle.rules.specs.Messages.{Station, station, same_station, Item, item_int, values_of, encode, item_of}
use Rattle.rules.specs.Model.{Plan, Task, whole_task, part_task, Run, Upload, idle, running, Shown, Model, no_plan, plan_of, upload_of, length_of, fresh, next_number, elapsed, expected, is_last, verdict_on, whole, whole_fault, is_others, is_own, with_plan, put, emptied, empty, flown, choose, in_range}
use Rattle.rules.specs.NextCommand.{Found, nowhere, found, next, reach, advance}
use Rattle.rules.specs.Calls.{Call, Request, chooses, asks_list, announces, changes, clears, acknowledges, asks_item, brings, Heard, refuses, request, expiry, command_done, heard}
use Rattle.rules.specs.Step.{Stepped, with_upload, idle_at, on_count, part_ok, on_partial, on_valid_item, on_item, on_ack, on_clear, any_others, covered, on_list, on_request, on_set_current, on_known, kind_ok, on_message, on_timer, act, step}
use Rattle.rule_laws.specs.Tests.{either}
use Rattle.rule_laws.specs.Lists.{each_set, each_one, each_join, each_take, each_drop}
use Rattle.rule_laws.specs.Layout.{pack_bytes}
use Rattle.rule_laws.specs.Heard.{HeardFits, heard_fits}
use Rattle.rule_laws.specs.Fitting.{Fits, AllBytes, StationFits, PlanFits, RunFits, UploadFits, ModelFits, CallFits, CallsFit}

-- ---- what is stored

pub item_bytes_lem : (item : Item) → AllBytes (item_of item)
unfolding item_of encode
item_bytes_lem item = pack_bytes (layout_of item_int_id).fields (values_of (item_int (station 0 0) 0 item))

no_bytes : AllBytes []
no_bytes i = omega arith

next_fits : (n : ℕ) → n < clock_values → next_number n < clock_values
unfolding next_number
next_fits n h = either (λ (k : ℕ). k < clock_values) (eqb n last_number) (λ e. omega arith) (λ e. let other : n ≡ last_number → ⊥ = eqb-false n last_number e in omega arith)

-- every item of a list is bytes
abbrev pub ItemsFit : List Bytes → Type 0
ItemsFit items = (n : ℕ) → AllBytes (get_or items n [])

-- the items taken and one more
pub more_bytes : (r : Run) (b : Bytes) → RunFits r → AllBytes b → ItemsFit (r.taken ++ (b ∷ []))
more_bytes r b fits small = each_join AllBytes r.taken (b ∷ []) [] fits.taken (each_one AllBytes b [] small no_bytes)

-- what is put in
pub whole_bytes : (t : Task) (old got : List Bytes) → ItemsFit old → ItemsFit got → ItemsFit (whole t old got)
unfolding whole
whole_bytes t old got all more =
    either ItemsFit t.partial
    (λ e. each_join AllBytes (take t.first old ++ got) (drop (t.last + 1) old) []
    (each_join AllBytes (take t.first old) got [] (each_take AllBytes t.first old [] no_bytes all) more)
    (each_drop AllBytes (t.last + 1) old [] no_bytes all))
    (λ e. more)

-- ---- the plans

abbrev PlansFit : Shown → Type 0
PlansFit s = (kind : ℕ) → PlanFits (plan_of s kind)

plan_fits : (s : Shown) (partial : Bool) (kind : ℕ) (p : Plan) → PlanFits p → PlansFit s → PlansFit (with_plan partial kind p s)
unfolding with_plan
plan_fits s partial kind p fits all j = each_set PlanFits s.plans kind j p no_plan fits all

pub put_fits : (s : Shown) (partial : Bool) (kind : ℕ) (items : List Bytes) → ItemsFit items → PlansFit s → PlansFit (put partial kind items s)
unfolding put
put_fits s partial kind items small all =
    plan_fits s partial kind (record { items = items; number = next_number (plan_of s kind).number })
    (record { number = next_fits (plan_of s kind).number (all kind).number; items = small }) all

empty_fits : (s : Shown) (ks : List ℕ) → PlansFit s → PlansFit (empty ks s)
unfolding empty emptied
empty_fits s [] all = all
empty_fits s (kind ∷ ks) all =
    let p : Plan = record { items = []; number = (plan_of s kind).number } in
    empty_fits (with_plan false kind p s) ks (plan_fits s false kind p (record { number = (all kind).number; items = λ n. no_bytes }) all)

reach_fits : (s : Shown) (f : Found) → PlansFit s → PlansFit (reach f s)
unfolding reach
reach_fits s (nowhere c) all = all
reach_fits s (found n counts c) all = all

-- ---- the uploads

idle_fits : (us : List Upload) (ks : List ℕ) → ((kind : ℕ) → UploadFits (get_or us kind idle)) → (kind : ℕ) → UploadFits (get_or (idle_at ks us) kind idle)
idle_fits us [] all = all
idle_fits us (k ∷ ks) all = idle_fits (set us k idle) ks (λ kind. each_set UploadFits us k kind idle idle tt all)

-- ---- the step

abbrev Kept : Stepped → Type 0
Kept s = ModelFits s.model

module _ (m : Model) (fits : ModelFits m) where
  upload_kept : (kind : ℕ) (u : Upload) → UploadFits u → ModelFits (with_upload kind u m)
  upload_kept kind u h = record { plans = fits.plans; uploads = λ j. each_set UploadFits m.uploads kind j u idle h fits.uploads }

  ended_kept : (kind : ℕ) → ModelFits (with_upload kind idle m)
  ended_kept kind = upload_kept kind idle tt

  shown_kept : (s : Shown) → PlansFit s → ModelFits (record { shown = s; uploads = m.uploads })
  shown_kept s all = record { plans = all; uploads = fits.uploads }

  -- a plan is replaced or emptied, and the upload of its kind ends
  replaced_kept : (kind : ℕ) (s : Shown) → PlansFit s → ModelFits (record { shown = s; uploads = set m.uploads kind idle })
  replaced_kept kind s all = record { plans = all; uploads = (ended_kept kind).uploads }

  module _ (from : Station) (now kind : ℕ) (sender : StationFits from) (time : now < clock_values) where
    opens_kept : (t : Task) → ModelFits (with_upload kind (running (record { station = from; task = t; next = t.first; taken = []; started = now; repeats = 0 })) m)
    opens_kept t =
        upload_kept kind (running (record { station = from; task = t; next = t.first; taken = []; started = now; repeats = 0 }))
        (record { station = sender; started = time; taken = λ i. no_bytes })

    count_kept : (n : ℕ) → Kept (on_count m from now kind n)
    unfolding on_count
    count_kept n =
        either Kept (is_others from (upload_of m kind)) (λ t. fits)
        (λ t. either Kept (ltb (size_of kind) n) (λ t. ended_kept kind)
        (λ t. either Kept (eqb n 0) (λ t. replaced_kept kind (empty (kind ∷ []) m.shown) (empty_fits m.shown (kind ∷ []) fits.plans))
        (λ t. opens_kept (whole_task n))))

    part_kept : (start end : ℕ) → Kept (on_partial m from now kind start end)
    unfolding on_partial
    part_kept start end =
        let len = length_of m.shown kind in
        either Kept (is_others from (upload_of m kind)) (λ t. fits)
        (λ t. either Kept (not (part_ok len start end)) (λ t. ended_kept kind) (λ t. opens_kept (part_task len start end)))

    valid_kept : (r : Run) (b : Bytes) → RunFits r → AllBytes b → Kept (on_valid_item m from now kind r b)
    unfolding on_valid_item
    valid_kept r b h small =
        let got = r.taken ++ (b ∷ []) in
        let more = more_bytes r b h small in
        let items = whole r.task (plan_of m.shown kind).items got in
        let all = whole_bytes r.task (plan_of m.shown kind).items got (fits.plans kind).items more in
        either Kept (not (is_last r))
        (λ t. upload_kept kind (running (record { station = r.station; task = r.task; next = expected r + 1; taken = got; started = now; repeats = 0 }))
        (record { station = h.station; started = time; taken = more }))
        (λ t. either Kept (eqb (whole_fault kind r.task items) accepted)
        (λ t. replaced_kept kind (put r.task.partial kind items m.shown) (put_fits m.shown r.task.partial kind items all fits.plans)) (λ t. ended_kept kind))

    item_kept : (u : Upload) → UploadFits u → (item : Item) → Kept (on_item u m from now kind item)
    unfolding on_item
    item_kept idle h item = fits
    item_kept (running r) h item =
        let verdict = verdict_on m.shown.home kind r.task (expected r) r.taken item in
        either Kept (not (same_station from r.station)) (λ t. fits)
        (λ t. either Kept (not (eqb item.seq (expected r))) (λ t. fits)
        (λ t. either Kept (not (eqb verdict accepted)) (λ t. ended_kept kind) (λ t. valid_kept r (item_of item) h (item_bytes_lem item))))

    request_kept : (r : Request) → Kept (on_message m from now kind r)
    unfolding on_message on_known on_set_current choose on_list on_ack on_clear on_request
    request_kept r = either Kept (kind_ok kind r) (λ t. known r) (λ t. fits)
      where
        known : (r : Request) → Kept (on_known m from now kind r)
        known (chooses seq) =
            let n = flown m.shown.home seq in
            either Kept (ltb n (length_of m.shown flight)) (λ t. shown_kept (choose n m.shown) fits.plans) (λ t. fits)
        known asks_list = fits
        known (announces n) = count_kept n
        known (changes start end) = part_kept start end
        known clears =
            either Kept (any_others m from (covered kind)) (λ t. fits)
            (λ t. record { plans = empty_fits m.shown (covered kind) fits.plans; uploads = idle_fits m.uploads (covered kind) fits.uploads })
        known (acknowledges result) = either Kept (is_own from (upload_of m kind) && not (eqb result accepted)) (λ t. ended_kept kind) (λ t. fits)
        known (asks_item seq) = either Kept (ltb seq (length_of m.shown kind)) (λ t. fits) (λ t. fits)
        known (brings item) = item_kept (upload_of m kind) (fits.uploads kind) item

  timer_kept : (u : Upload) → UploadFits u → (now kind : ℕ) → now < clock_values → Kept (on_timer u m now kind)
  unfolding on_timer
  timer_kept idle h now kind time = fits
  timer_kept (running r) h now kind time =
      either Kept (ltb (elapsed now r.started) expiry_ms) (λ t. fits)
      (λ t. either Kept (ltb r.repeats max_repeats)
      (λ t. upload_kept kind (running (record { station = r.station; task = r.task; next = r.next; taken = r.taken; started = now; repeats = r.repeats + 1 }))
      (record { station = h.station; started = time; taken = h.taken }))
      (λ t. ended_kept kind))

  act_kept : (h : Heard) → HeardFits h → Kept (act m h)
  unfolding act advance
  act_kept (refuses outcome) h = fits
  act_kept (request from now kind r) h = request_kept from now kind h.0 h.2 r
  act_kept (expiry now kind) h = timer_kept (upload_of m kind) (fits.uploads kind) now kind h.1
  act_kept command_done h = shown_kept (advance m.shown) (reach_fits m.shown (next m.shown) fits.plans)

pub step_fits : (m : Model) (c : Call) → ModelFits m → CallFits c → ModelFits (step m c).model
unfolding step
step_fits m c fits call = act_kept m fits (heard (in_range m) c) (heard_fits (in_range m) c call)

-- ---- from a fresh start

pub fresh_fits : (home : Bool) → ModelFits (fresh home)
fresh_fits home = record { plans = plans; uploads = uploads }
  where
    none : PlanFits no_plan
    none = record { number = omega arith; items = λ n i. omega arith }

    plans : (kind : ℕ) → PlanFits (plan_of (fresh home).shown kind)
    plans zero = none
    plans (suc zero) = none
    plans (suc (suc zero)) = none
    plans (suc (suc (suc kind))) = none

    uploads : (kind : ℕ) → UploadFits (upload_of (fresh home) kind)
    uploads zero = tt
    uploads (suc zero) = tt
    uploads (suc (suc zero)) = tt
    uploads (suc (suc (suc kind))) = tt

-- ---- lists of calls

-- a list and one more call
pub calls_more : (cs : List Call) (c : Call) → CallsFit (cs ++ (c ∷ [])) → CallsFit cs × CallFits c
calls_more [] c h = (tt, h.0)
calls_more (x ∷ cs) c h = let rest = calls_more cs c h.1 in ((h.0, rest.0), rest.1)

-- the item that a call brings
pub brought_fits :
    (c : Call) (o : Station) (now kind : ℕ) (item : Item) → CallFits c → heard true c ≡ request o now kind (brings item) → Fits (item_int (station 0 0) 0 item)
brought_fits c o now kind item call sent = (subst HeardFits sent (heard_fits true c call)).3
