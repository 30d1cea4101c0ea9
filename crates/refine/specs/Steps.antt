-- What the code's step keeps of the promise: the model, the answer, halves, and all of the store beside the spare places.
use Rattle.std.specs.Prelude.{ℕ, ◌+◌, ◌≤◌, ◌≡◌, Bool, ◌&&◌, length, set, ltb, Option, Some, None}
use Rattle.std.proofs.Common.{arith, ap₂, ◌∙◌, true≢false, length-set}
use Rattle.std.proofs.Math.Path.{refl, sym, ap, subst}
use mathlib.Core.List.{List, [], ◌∷◌}
use Rattle.std.proofs.Math.Bool.{true, false, not, cond, and-false, or-false}
use Rattle.std.proofs.Math.ListN.{get_or}
use Rattle.std.proofs.Math.Dec.{eqb}
use borrow.Author.Tests.{le-leb, eq-eqb, ne_eqb, eqb-true, not-true, not-false}
use Rattle.rules.specs.Limits.{flight, rally, kinds, every_kind, size_of, accepted, max_repeats, expiry_ms, last_number}
use Rattle.rules.specs.Messages.{Station, Item, same_station}
use Rattle.rules.specs.Model as model
use Rattle.rules.specs.Model.{Model, whole_task, part_task, next_number, elapsed, verdict_on, whole_fault, flown, every, in_range}
use Rattle.rules.specs.Calls.{Call, Request, chooses, asks_list, announces, changes, clears, acknowledges, asks_item, brings, Heard, refuses, request, expiry, command_done, is_known, heard}
use Rattle.rules.specs.NextCommand.{next, answer_of, advance}
use Rattle.rules.specs.Step.{refused, orders, is_refused, Stepped, part_ok, covered, kind_ok, act, step}
use Rattle.rule_laws.specs.Tests.{both, either, outside}
use Rattle.rule_laws.specs.Kinds.{known_below}
use Rattle.rule_laws.specs.Lists.{at_set}
use Rattle.rule_laws.specs.Brought.{request_kind}
use Rattle.rule_laws.specs.Refused.{message_answered, timer_answered}
use Rattle.plan.specs.declared.State.{State}
use Rattle.plan.specs.declared.Plan.{Plan}
use Rattle.plan.specs.declared.Run.{Run}
use Rattle.places.specs.Forms.{Store, Form, least, offset_of}
use Rattle.places.specs.Places.{Lawful}
use Rattle.places.specs.Writes.{Leaves}
use Rattle.places.specs.Carried.{filled}
use Rattle.plan.specs.View.{empty_plan, plan_of, view_in, station_in, task_in}
use Rattle.upload.specs.declared.Effect.{Effect}
use Rattle.upload.specs.declared.Effect.TheVariants.{Nothing, Turns, Renews, Changes, EmptiesAll, Chooses}
use Rattle.upload.specs.declared.Turned.{Turned}
use Rattle.upload.specs.Turns.{with_upload, ended, emptied, replaced, started, one_more, asked_again, others_upload, own_upload, count_turned, part_turned, ack_turned, timer_turned, TurnAndStore, settled, last_turned, valid_item_turned, item_verdict, item_turned, stored}
use Rattle.upload.specs.Effects.{turned_state, renewed_state, emptied_state, applied}
use Rattle.record_steps.specs.Shown.{choose_effect}
use Rattle.record_steps.specs.Doing.{Done, others_among, clear_effect, clear_done, plan_done, known_done, message_done, timer_done}
use Rattle.refine.specs.After.{After, gives, after_message, after_timer}
use Rattle.refine.specs.Views.{plan_shown}
use Rattle.refine.specs.Turned.{Agree, timer_agrees}
use Rattle.refine.specs.Items.{written, settled_leaves}
use Rattle.refine.specs.Messages.{unknown_turn, message_agrees}
use Rattle.refine.specs.Promise.{number_of, half_of, in_places, fills_up, spare_in, spare_at, spare}

module _ (F : Form) (lawful : Lawful F) where
  -- ---- halves

  -- a plan's half turns over exactly where its number moved
  abbrev HalfOk : Plan → Plan → Type 0
  HalfOk before after = after.half ≡ cond (eqb after.number before.number) before.half (not before.half)

  -- the number after n is another
  next_moves : (n : ℕ) → eqb (next_number n) n ≡ false
  unfolding next_number
  next_moves n = go (eqb n last_number) refl
    where
      go : (t : Bool) → eqb n last_number ≡ t → eqb (cond t 1 (n + 1)) n ≡ false
      go true t = let last : n ≡ last_number = eqb-true n last_number t in ne_eqb 1 n (λ e. omega arith)
      go false t = ne_eqb (n + 1) n (λ e. omega arith)

  -- a plan that keeps its half and number
  stays_ok : (p q : Plan) → q.half ≡ p.half → q.number ≡ p.number → HalfOk p q
  stays_ok p q h n = h ∙ ap (λ (t : Bool). cond t p.half (not p.half)) (sym (eq-eqb q.number p.number n))

  -- a plan that a call puts in is of a known kind, and its half is so
  abbrev pub EffectOk : (k : ℕ) → Plan → Effect → Type 0
  EffectOk k p Nothing = Unit
  EffectOk k p (Turns q) = (is_known k ≡ true) × HalfOk p q
  EffectOk k p (Renews q) = (is_known k ≡ true) × HalfOk p q
  EffectOk k p (Changes q) = (is_known k ≡ true) × HalfOk p q
  EffectOk k p EmptiesAll = Unit
  EffectOk k p (Chooses seq) = Unit

  same_ok : (p : Plan) → HalfOk p p
  same_ok p = stays_ok p p refl refl

  -- each turn of a known kind's plan
  module _ (k : ℕ) (known : is_known k ≡ true) (p : Plan) where
    abbrev TurnOk : Turned → Type 0
    TurnOk t = EffectOk k p t.effect

    ended_ok : (is_known k ≡ true) × HalfOk p (ended p)
    ended_ok = (known, stays_ok p (ended p) refl refl)

    emptied_ok : (is_known k ≡ true) × HalfOk p (emptied p)
    emptied_ok = (known, stays_ok p (emptied p) refl refl)

    runs_ok_lem : (r : Run) → (is_known k ≡ true) × HalfOk p (with_upload p (Some r))
    runs_ok_lem r = (known, stays_ok p (with_upload p (Some r)) refl refl)

    count_ok : (from : Station) (now n size : ℕ) → TurnOk (count_turned p from now n size)
    unfolding count_turned
    count_ok from now n size =
        either TurnOk (others_upload from p.upload) (λ t. tt)
        (λ t. either TurnOk (ltb size n) (λ t. ended_ok) (λ t. either TurnOk (eqb n 0) (λ t. emptied_ok) (λ t. runs_ok_lem (started from now (whole_task n)))))

    part_ok_lem : (from : Station) (now start end : ℕ) → TurnOk (part_turned p from now start end)
    unfolding part_turned
    part_ok_lem from now start end =
        either TurnOk (others_upload from p.upload) (λ t. tt)
        (λ t. either TurnOk (not (part_ok p.len start end)) (λ t. ended_ok) (λ t. runs_ok_lem (started from now (part_task p.len start end))))

    ack_ok : (from : Station) (result : ℕ) → TurnOk (ack_turned p from result)
    unfolding ack_turned
    ack_ok from result = either TurnOk (own_upload from p.upload && not (eqb result accepted)) (λ t. ended_ok) (λ t. tt)

    timer_ok : (u : Option Run) (now : ℕ) → TurnOk (timer_turned u p now)
    unfolding timer_turned
    timer_ok None now = tt
    timer_ok (Some r) now =
        either TurnOk (ltb (elapsed now r.started) expiry_ms) (λ t. tt)
        (λ t. either TurnOk (ltb r.repeats max_repeats) (λ t. runs_ok_lem (asked_again r now)) (λ t. ended_ok))

    replaced_ok : (n : ℕ) → (is_known k ≡ true) × HalfOk p (replaced p n)
    replaced_ok n = (known, ap (λ (t : Bool). cond t p.half (not p.half)) (sym (next_moves p.number)))

    abbrev StoredTurnOk : TurnAndStore → Type 0
    StoredTurnOk t = TurnOk t.turned

    puts_ok : (partial : Bool) (n : ℕ) → EffectOk k p (cond partial (Changes (replaced p n)) (Renews (replaced p n)))
    puts_ok true n = replaced_ok n
    puts_ok false n = replaced_ok n

    valid_ok : (s : Store) (r : Run) (now : ℕ) → StoredTurnOk (valid_item_turned F s k p r now)
    unfolding valid_item_turned last_turned
    valid_ok s r now =
        either StoredTurnOk (not (eqb r.next r.last)) (λ t. runs_ok_lem (one_more r now))
        (λ t. either TurnOk (eqb (whole_fault k (task_in r) _) accepted) (λ t. puts_ok r.partial r.count) (λ t. ended_ok))

    item_ok : (home : Bool) (s : Store) (u : Option Run) (from : Station) (now : ℕ) (item : Item) → StoredTurnOk (item_turned F home s k u p from now item)
    unfolding item_turned
    item_ok home s None from now item = tt
    item_ok home s (Some r) from now item =
        either StoredTurnOk (not (same_station from (station_in r))) (λ t. tt)
        (λ t. either StoredTurnOk (not (eqb item.seq r.next)) (λ t. tt)
        (λ t. either StoredTurnOk (not (eqb (item_verdict F home s k p r item) accepted)) (λ t. ended_ok) (λ t. valid_ok (stored F s k p r item) r now)))

  -- ---- halves of the whole state

  abbrev HalvesOk : State → State → Type 0
  HalvesOk st st' = (j : ℕ) → is_known j ≡ true → HalfOk (plan_of st j) (plan_of st' j)

  halves_same : (st : State) → HalvesOk st st
  halves_same st j known = same_ok (plan_of st j)

  -- the plans after one of them became another
  put_plan_lem : (st : State) → length st.plans ≡ length kinds → (k j : ℕ) (p : Plan) → is_known k ≡ true → get_or (set st.plans k p) j empty_plan ≡ cond (eqb k j) p (plan_of st j)
  put_plan_lem st three k j p known = at_set st.plans k j p empty_plan (rw three (known_below k known))

  -- a clear keeps every half and number
  record Still (st st' : State) : Type 0 where
    half : (j : ℕ) → (plan_of st' j).half ≡ (plan_of st j).half
    number : (j : ℕ) → (plan_of st' j).number ≡ (plan_of st j).number

  cleared_still : (st : State) → length st.plans ≡ length kinds → (ks : List ℕ) → every is_known ks ≡ true → Still st (emptied_state st ks)
  unfolding renewed_state
  cleared_still st three [] known = record { half = λ j. refl; number = λ j. refl }
  cleared_still st three (k ∷ ks) known =
      let parts = both (is_known k) (every is_known ks) known in
      let p = emptied (plan_of st k) in
      let rest = cleared_still (renewed_state false st k p) (length-set st.plans k p ∙ three) ks parts.1 in
      let at : (j : ℕ) → plan_of (renewed_state false st k p) j ≡ cond (eqb k j) p (plan_of st j) = λ j. put_plan_lem st three k j p parts.0 in
      record {
        half = λ j. rest.half j ∙ ap (λ (p : Plan). p.half) (at j) ∙ either (λ (p : Plan). p.half ≡ (plan_of st j).half) (eqb k j) (λ e. ap (λ (i : ℕ). (plan_of st i).half) (eqb-true k j e)) (λ e. refl);
        number = λ j. rest.number j ∙ ap (λ (p : Plan). p.number) (at j) ∙ either (λ (p : Plan). p.number ≡ (plan_of st j).number) (eqb k j) (λ e. ap (λ (i : ℕ). (plan_of st i).number) (eqb-true k j e)) (λ e. refl);
      }

  still_halves : (st st' : State) → Still st st' → HalvesOk st st'
  still_halves st st' h j known = stays_ok (plan_of st j) (plan_of st' j) (h.half j) (h.number j)

  -- the halves after an effect
  put_halves :
      (st st' : State) → length st.plans ≡ length kinds → (k : ℕ) (p : Plan) → st'.plans ≡ set st.plans k p → (is_known k ≡ true) × HalfOk (plan_of st k) p → HalvesOk st st'
  put_halves st st' three k p plans ok j known =
      subst (HalfOk (plan_of st j)) (sym (ap (λ (l : List Plan). get_or l j empty_plan) plans ∙ put_plan_lem st three k j p ok.0))
      (either (HalfOk (plan_of st j)) (eqb k j) (λ e. subst (λ (i : ℕ). HalfOk (plan_of st i) p) (eqb-true k j e) ok.1) (λ e. same_ok (plan_of st j)))

  effect_halves : (st : State) → length st.plans ≡ length kinds → (k : ℕ) (e : Effect) → EffectOk k (plan_of st k) e → HalvesOk st (applied st k e)
  unfolding renewed_state
  effect_halves st three k Nothing ok = halves_same st
  effect_halves st three k (Turns p) ok = put_halves st (turned_state st k p) three k p refl ok
  effect_halves st three k (Renews p) ok = put_halves st (renewed_state false st k p) three k p refl ok
  effect_halves st three k (Changes p) ok = put_halves st (renewed_state true st k p) three k p refl ok
  effect_halves st three k EmptiesAll ok = still_halves st (emptied_state st kinds) (cleared_still st three kinds refl)
  effect_halves st three k (Chooses seq) ok = halves_same st

  -- ---- the store beside the spare places

  record Beside (s : Store) (free : ℕ → Bool) (s' : Store) : Type 0 where
    numbers : (i : ℕ) → free i ≡ false → get_or s' i 0 ≡ get_or s i 0
    long : length s' ≡ length s

  beside_same : (s : Store) (free : ℕ → Bool) → Beside s free s
  beside_same s free = record { numbers = λ i e. refl; long = refl }

  module _ (st : State) (s : Store) (long : least F ≤ length s) (ranged : in_range (view_in F st s) ≡ true) (k : ℕ) (known : is_known k ≡ true) where
    -- writes among places of the half that the plan is not in
    leaves_beside : (low high : ℕ) (s' : Store) → Leaves F (not (plan_of st k).half) k low high s s' → Beside s (in_places F (not (plan_of st k).half) k low high) s'
    leaves_beside low high s' leaves =
        let half = not (plan_of st k).half in
        record { numbers = λ i e. leaves.numbers i (outside (offset_of F half k low) (offset_of F half k high) i e); long = leaves.long }

    -- by the upload's own station, with the number expected
    module _ (r : Run) (from : Station) (item : Item) (runs : (plan_of st k).upload ≡ Some r) (own : same_station from (station_in r) ≡ true) (turn : eqb item.seq r.next ≡ true) where
      abbrev p : Plan
      p = plan_of st k

      own_beside : (s' : Store) → Leaves F (not p.half) k (cond (fills_up F st.home k r item) 0 r.next) (cond (fills_up F st.home k r item) r.count (r.next + 1)) s s' → Beside s (spare_in F st.home p k (Some r) from item) s'
      unfolding spare_in
      own_beside s' leaves =
          let after = leaves_beside (cond (fills_up F st.home k r item) 0 r.next) (cond (fills_up F st.home k r item) r.count (r.next + 1)) s' leaves in
          record { numbers = λ i e. after.numbers i (rw (own, turn) at e); long = after.long }

      -- no item of a part is judged by those taken before it
      part_verdict : r.partial ≡ true → verdict_on st.home k (task_in r) r.next [] item ≡ item_verdict F st.home s k p r item
      unfolding verdict_on
      part_verdict part = rw part

      fills_not : eqb r.next r.last ≡ false → fills_up F st.home k r item ≡ false
      fills_not e = rw (e, and-false)

      fills : eqb r.next r.last ≡ true → eqb (item_verdict F st.home s k p r item) accepted ≡ true → r.partial ≡ true → fills_up F st.home k r item ≡ true
      fills e valid part = rw (part_verdict part, valid, part, e)

      fills_whole : r.partial ≡ false → fills_up F st.home k r item ≡ false
      fills_whole all = rw all

      -- an item that is not the last
      more_beside : eqb r.next r.last ≡ false → Beside s (spare_in F st.home p k (Some r) from item) (stored F s k p r item)
      more_beside e =
          own_beside (stored F s k p r item)
          (subst (λ (b : Bool). Leaves F (not p.half) k (cond b 0 r.next) (cond b r.count (r.next + 1)) s (stored F s k p r item))
          (sym (fills_not e)) (written F lawful st s long ranged k known r runs item))

      -- the last, and valid
      last_beside : eqb r.next r.last ≡ true → eqb (item_verdict F st.home s k p r item) accepted ≡ true → Beside s (spare_in F st.home p k (Some r) from item) (settled F (stored F s k p r item) k p r)
      unfolding settled
      last_beside e valid = own_beside (settled F (stored F s k p r item) k p r) (go r.partial refl)
        where
          go : (b : Bool) → r.partial ≡ b
              → Leaves F (not p.half) k (cond (fills_up F st.home k r item) 0 r.next) (cond (fills_up F st.home k r item) r.count (r.next + 1)) s (settled F (stored F s k p r item) k p r)
          go true part =
              subst (λ (b : Bool). Leaves F (not p.half) k (cond b 0 r.next) (cond b r.count (r.next + 1)) s (settled F (stored F s k p r item) k p r))
              (sym (fills e valid part)) (settled_leaves F lawful st s long ranged k known r runs item)
          go false all =
              subst (λ (b : Bool). Leaves F (not p.half) k (cond b 0 r.next) (cond b r.count (r.next + 1)) s (settled F (stored F s k p r item) k p r)) (sym (fills_whole all))
              (subst (λ (b : Bool). Leaves F (not p.half) k r.next (r.next + 1) s (cond b (filled F (stored F s k p r item) p.half k (task_in r)) (stored F s k p r item))) (sym all)
              (written F lawful st s long ranged k known r runs item))

    item_beside :
        (u : Option Run) → (plan_of st k).upload ≡ u → (from : Station) (now : ℕ) (item : Item)
        → Beside s (spare_in F st.home (plan_of st k) k u from item) (item_turned F st.home s k u (plan_of st k) from now item).store
    unfolding item_turned valid_item_turned
    item_beside None e from now item = beside_same s (spare_in F st.home (plan_of st k) k None from item)
    item_beside (Some r) e from now item =
        let free = spare_in F st.home (plan_of st k) k (Some r) from item in
        let p = plan_of st k in
        either Left (not (same_station from (station_in r))) (λ t. beside_same s free)
        (λ own. either Left (not (eqb item.seq r.next)) (λ t. beside_same s free)
        (λ turn. either Left (not (eqb (item_verdict F st.home s k p r item) accepted)) (λ t. beside_same s free)
        (λ valid. either Left (not (eqb r.next r.last))
        (λ more. more_beside r from item e (not-false (same_station from (station_in r)) own) (not-false (eqb item.seq r.next) turn) (not-true (eqb r.next r.last) more))
        (λ last. last_beside r from item e (not-false (same_station from (station_in r)) own) (not-false (eqb item.seq r.next) turn) (not-false (eqb r.next r.last) last)
        (not-false (eqb (item_verdict F st.home s k p r item) accepted) valid)))))
      where
        Left : TurnAndStore → Type 0
        Left t = Beside s (spare_in F st.home (plan_of st k) k (Some r) from item) t.store

  -- ---- every message

  module _ (st : State) (s : Store) (three : length st.plans ≡ length kinds) (long : least F ≤ length s) (ranged : in_range (view_in F st s) ≡ true) (from : Station) (now k : ℕ) where
    abbrev DoneOk : Done → Type 0
    DoneOk d = EffectOk k (plan_of st k) d.effect

    ack_effect : (result : ℕ) → EffectOk k (plan_of st k) (ack_turned (plan_of st k) from result).effect
    ack_effect result = go (is_known k) refl
      where
        go : (t : Bool) → is_known k ≡ t → EffectOk k (plan_of st k) (ack_turned (plan_of st k) from result).effect
        go true known = ack_ok k known (plan_of st k) from result
        go false e = subst (λ (t : Turned). EffectOk k (plan_of st k) t.effect) (sym (unknown_turn F lawful st s three from k result e)) tt

    clear_effect_lem : kind_ok k clears ≡ true → EffectOk k (plan_of st k) (clear_effect st.plans k)
    unfolding kind_ok
    clear_effect_lem ok = go (eqb k every_kind) refl
      where
        go : (t : Bool) → eqb k every_kind ≡ t → EffectOk k (plan_of st k) (cond t EmptiesAll (Renews (emptied (plan_of st k))))
        go true e = tt
        go false e = emptied_ok k (rw (e, or-false) at ok) (plan_of st k)

    known_effect : (r : Request) → kind_ok k r ≡ true → DoneOk (known_done F st.home st.plans st.current s from now k r)
    unfolding known_done plan_done kind_ok choose_effect clear_done
    known_effect (chooses seq) ok = either (EffectOk k (plan_of st k)) (ltb (flown st.home seq) (plan_of st flight).len) (λ t. tt) (λ t. tt)
    known_effect asks_list ok = tt
    known_effect (announces n) ok = count_ok k ok (plan_of st k) from now n (size_of k)
    known_effect (changes start end) ok = part_ok_lem k ok (plan_of st k) from now start end
    known_effect clears ok = either DoneOk (others_among st.plans from (covered k)) (λ t. tt) (λ t. clear_effect_lem ok)
    known_effect (acknowledges result) ok = ack_effect result
    known_effect (asks_item seq) ok = tt
    known_effect (brings item) ok = item_ok k ok (plan_of st k) st.home s (plan_of st k).upload from now item

    pub message_effect : (r : Request) → DoneOk (message_done F st.home st.plans st.current s from now k r)
    unfolding message_done
    message_effect r = either DoneOk (kind_ok k r) (known_effect r) (λ t. tt)

    message_halves : (r : Request) → HalvesOk st (after_message F st s from now k r).state
    message_halves r = effect_halves st three k (message_done F st.home st.plans st.current s from now k r).effect (message_effect r)

    abbrev Left : Request → Done → Type 0
    Left r d = Beside s (spare_at F st (request from now k r)) d.store

    known_beside : (r : Request) → kind_ok k r ≡ true → Left r (known_done F st.home st.plans st.current s from now k r)
    unfolding known_done plan_done kind_ok clear_done spare_at
    known_beside (chooses seq) ok = beside_same s (λ i. false)
    known_beside asks_list ok = beside_same s (λ i. false)
    known_beside (announces n) ok = beside_same s (λ i. false)
    known_beside (changes start end) ok = beside_same s (λ i. false)
    known_beside clears ok = either (Left clears) (others_among st.plans from (covered k)) (λ t. beside_same s (λ i. false)) (λ t. beside_same s (λ i. false))
    known_beside (acknowledges result) ok = beside_same s (λ i. false)
    known_beside (asks_item seq) ok = beside_same s (λ i. false)
    known_beside (brings item) ok =
        let after = item_beside st s long ranged k ok (plan_of st k).upload refl from now item in
        record { numbers = λ i e. after.numbers i (rw ok at e); long = after.long }

    message_beside : (r : Request) → Left r (message_done F st.home st.plans st.current s from now k r)
    unfolding message_done
    message_beside r = either (Left r) (kind_ok k r) (known_beside r) (λ t. beside_same s (spare_at F st (request from now k r)))

  -- ---- what every call keeps of the promise

  -- the code's step d of call c
  pub record Steps (c : Call) (st : State) (s : Store) (d : After) : Type 0 where
    pub model : view_in F d.state d.store ≡ (step (view_in F st s) c).model
    pub answer : d.answer ≡ (step (view_in F st s) c).answer
    pub halves :
        (k : ℕ) → k ≤ rally
        → half_of d.state k ≡ cond (eqb (number_of (step (view_in F st s) c).model k) (number_of (view_in F st s) k)) (half_of st k) (not (half_of st k))
    pub unchanged : is_refused (step (view_in F st s) c).answer ≡ true → (d.state ≡ st) × (d.store ≡ s)
    pub beside : (i : ℕ) → spare F st c i ≡ false → get_or d.store i 0 ≡ get_or s i 0
    pub long : length d.store ≡ length s

  -- the halves, by the numbers that the models show
  shown_halves :
      (st st' : State) (s s' : Store) (m : Model) → HalvesOk st st' → view_in F st' s' ≡ m → (k : ℕ) → k ≤ rally
      → half_of st' k ≡ cond (eqb (number_of m k) (number_of (view_in F st s) k)) (half_of st k) (not (half_of st k))
  shown_halves st st' s s' m ok e k small =
      let known = le-leb k rally small in
      let before = ap (λ (p : model.Plan). p.number) (plan_shown F st s k known) in
      let after = ap (λ (x : Model). number_of x k) (sym e) ∙ ap (λ (p : model.Plan). p.number) (plan_shown F st' s' k known) in
      ok k known ∙ sym (ap₂ (λ (a b : ℕ). cond (eqb a b) (half_of st k) (not (half_of st k))) after before)

  -- a refused call
  pub refused_steps : (c : Call) (st : State) (s : Store) (outcome : ℕ) → heard (in_range (view_in F st s)) c ≡ refuses outcome → Steps c st s (gives st s (refused outcome))
  unfolding step act
  refused_steps c st s outcome e =
      let stepped : step (view_in F st s) c ≡ record { model = view_in F st s; answer = refused outcome } = ap (act (view_in F st s)) e in
      record {
        model = sym (ap (λ (x : Stepped). x.model) stepped);
        answer = sym (ap (λ (x : Stepped). x.answer) stepped);
        halves = shown_halves st st s s (step (view_in F st s) c).model (halves_same st) (sym (ap (λ (x : Stepped). x.model) stepped));
        unchanged = λ t. (refl, refl);
        beside = λ i t. refl;
        long = refl;
      }

  -- a step that is the rules' of what is heard, and is no refusal
  heard_steps :
      (c : Call) (st : State) (s : Store) (h : Heard) (d : After) → in_range (view_in F st s) ≡ true → heard (in_range (view_in F st s)) c ≡ h → Agree F d (act (view_in F st s) h)
      → HalvesOk st d.state → is_refused (act (view_in F st s) h).answer ≡ false → Beside s (spare_at F st h) d.store → Steps c st s d
  unfolding step
  heard_steps c st s h d ranged e agree halves answered beside =
      let stepped : act (view_in F st s) h ≡ step (view_in F st s) c = ap (act (view_in F st s)) (sym e) in
      let same : heard true c ≡ h = ap (λ (t : Bool). heard t c) (sym ranged) ∙ e in
      record {
        model = agree.model ∙ ap (λ (x : Stepped). x.model) stepped;
        answer = agree.answer ∙ ap (λ (x : Stepped). x.answer) stepped;
        halves = shown_halves st d.state s d.store (step (view_in F st s) c).model halves (agree.model ∙ ap (λ (x : Stepped). x.model) stepped);
        unchanged = λ t. absurd (true≢false (sym t ∙ sym (ap (λ (x : Stepped). is_refused x.answer) stepped) ∙ answered));
        beside = λ i t. beside.numbers i (subst (λ (g : Heard). spare_at F st g i ≡ false) same t);
        long = beside.long;
      }

  module _ (c : Call) (st : State) (s : Store) (three : length st.plans ≡ length kinds) (ranged : in_range (view_in F st s) ≡ true) where
    -- a message that is not refused
    pub message_steps :
        least F ≤ length s → (from : Station) (now k : ℕ) (r : Request) → heard (in_range (view_in F st s)) c ≡ request from now k r
        → Steps c st s (after_message F st s from now k r)
    unfolding act
    message_steps long from now k r e =
        heard_steps c st s (request from now k r) (after_message F st s from now k r) ranged e (message_agrees F lawful st s three long ranged from now k r (request_kind (in_range (view_in F st s)) c e))
        (message_halves st s three long ranged from now k r) (message_answered (view_in F st s) from now k r) (message_beside st s three long ranged from now k r)

    -- a timer call that is not refused
    pub timer_steps : (now k : ℕ) → is_known k ≡ true → heard (in_range (view_in F st s)) c ≡ expiry now k → Steps c st s (after_timer st s now k)
    unfolding act timer_done spare_at
    timer_steps now k known e =
        heard_steps c st s (expiry now k) (after_timer st s now k) ranged e (timer_agrees F st s three k known now)
        (effect_halves st three k (timer_turned (plan_of st k).upload (plan_of st k) now).effect (timer_ok k known (plan_of st k) (plan_of st k).upload now))
        (timer_answered (view_in F st s) (model.upload_of (view_in F st s) k) now k) (beside_same s (λ i. false))

    -- a "command done" call that is not refused, by the next command's own promise
    pub done_steps :
        (st' : State) → view_in F st' s ≡ record { shown = advance (view_in F st s).shown; uploads = (view_in F st s).uploads } → st'.plans ≡ st.plans
        → heard (in_range (view_in F st s)) c ≡ command_done → Steps c st s (gives st' s (orders (answer_of (next (view_in F st s).shown))))
    unfolding act spare_at
    done_steps st' shows plans e =
        heard_steps c st s command_done (gives st' s (orders (answer_of (next (view_in F st s).shown)))) ranged e (record { model = shows; answer = refl })
        (λ j known. subst (HalfOk (plan_of st j)) (ap (λ (l : List Plan). get_or l j empty_plan) (sym plans)) (same_ok (plan_of st j))) refl (beside_same s (λ i. false))
