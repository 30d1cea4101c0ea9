-- An item commutes with the view: what is written to the other half shows only as the upload's next item, and at the last item as the plan that is put in.
use Prim.Native.Nat.{ℕ, ◌+◌, ◌≤◌, ◌<◌}
use Rattle.std.proofs.Common.{arith, add-one, sym, subst, ◌∙◌, leb-true, eqb-true}
use Rattle.std.proofs.Math.Decide.{ℕ_discrete}
use Rattle.std.specs.Prelude.{◌≡◌, Bool, not, cond, length, take, eqb, Option, Some, None, Ok, Err}
use Rattle.std.proofs.Math.Path.{refl, ap, ap₂}
use mathlib.Core.List.{List, [], ◌∷◌, ◌++◌}
use Rattle.std.proofs.Math.Bool.{true, false, not-not}
use Rattle.std.proofs.Math.ListN.{set, drop}
use Rattle.std.proofs.lemmas.List.{drop-append-le}
use Rattle.std.proofs.lemmas.Bool.{not-true, not-false}
use Rattle.rules.specs.Limits.{flight, fence, rally, kinds, size_of, accepted, invalid_sequence, denied}
use Rattle.rules.specs.Payload.{Bytes}
use Rattle.rules.specs.Messages.{Station, Item, ack, item_of, same_station}
use Rattle.rules.specs.Model as model
use Rattle.rules.specs.Model.{idle, running, whole, whole_fault, next_number, with_plan, upload_in_range, in_range}
use Rattle.rules.specs.Calls.{is_known}
use Rattle.rules.specs.Step.{Stepped, Answer, says, acks, requests, on_valid_item, on_item}
use Rattle.rules.specs.Step as rule
use Rattle.rule_laws.specs.Tests.{either₂}
use Rattle.rule_laws.specs.Kinds.{each_kind, ranged_kind}
use Rattle.rule_laws.specs.Tasks as tasks
use Rattle.rule_laws.specs.Tasks.{RunRanges, run_ranges}
use Rattle.plan.specs.declared.State.{State}
use Rattle.plan.specs.declared.Plan.{Plan}
use Rattle.plan.specs.declared.Run.{Run}
use Rattle.limits.specs.declared.Fault.TheVariants.{InvalidSequence, Denied}
use Rattle.places.specs.Forms.{Store, Form, least, items_in, length_items}
use Rattle.places.specs.Places.{Lawful}
use Rattle.places.specs.Writes.{put_at, Elsewhere, other_half, other_kind, Leaves, leaves_both, leaves_wider, items_left, put_leaves, items_more, stored_item}
use Rattle.places.specs.Carried.{filled, filled_leaves, part_whole}
use Rattle.plan.specs.View.{plan_of, plan_in, run_in, upload_in, view_in, station_in, task_in}
use Rattle.upload.specs.declared.Say.{Say}
use Rattle.upload.specs.declared.Say.TheVariants.{Ack, Ask}
use Rattle.upload.specs.declared.Effect.TheVariants.{Renews, Changes}
use Rattle.upload.specs.declared.Turned.{Turned}
use Rattle.upload.specs.Faults.{fault_named}
use Rattle.upload.specs.Turns.{with_upload, replaced, one_more, moves, puts_in, TurnAndStore, turn_with, settled, last_turned, valid_item_turned, item_verdict, item_turned}
use Rattle.upload.specs.Effects.{renewed_state, applied}
use Rattle.record_steps.specs.Answers.{answer_of}
use Rattle.refine.specs.After.{after_turn, after_item}
use Rattle.refine.specs.Views.{plan_shown, upload_shown, length_shown, view_upload, view_renewed}
use Rattle.refine.specs.Turned.{Agree, kept, ends}
use Rattle.refine.specs.Named.{verdict_named, whole_named}

module _ (F : Form) (lawful : Lawful F) where
  -- in range, seen from the state
  module _ (st : State) (s : Store) (ranged : in_range (view_in F st s) ≡ true) where
    pub len_ranged : (k : ℕ) → is_known k ≡ true → (plan_of st k).len ≤ size_of k
    len_ranged k known = subst (λ (n : ℕ). n ≤ size_of k) (length_shown F st s k known) (ranged_kind (view_in F st s) ranged k known).most

    pub run_ranged_lem : (k : ℕ) → is_known k ≡ true → (r : Run) → (plan_of st k).upload ≡ Some r → RunRanges k (plan_of st k).len (run_in F s (not (plan_of st k).half) k r)
    unfolding upload_in
    run_ranged_lem k known r runs =
        run_ranges k (plan_of st k).len (run_in F s (not (plan_of st k).half) k r)
        (subst (λ (u : Option Run). upload_in_range k (plan_of st k).len (upload_in F s (not (plan_of st k).half) k u) ≡ true) runs
        (subst (λ (u : model.Upload). upload_in_range k (plan_of st k).len u ≡ true) (upload_shown F st s k known)
        (subst (λ (n : ℕ). upload_in_range k n (model.upload_of (view_in F st s) k) ≡ true) (length_shown F st s k known) (ranged_kind (view_in F st s) ranged k known).upload)))

    -- the next place of an upload is one of its kind's
    pub next_below : (k : ℕ) → is_known k ≡ true → (r : Run) → (plan_of st k).upload ≡ Some r → r.next < size_of k
    next_below k known r runs = tasks.next_below k (plan_of st k).len (run_in F s (not (plan_of st k).half) k r) (run_ranged_lem k known r runs)

  -- writes among a kind's places in the half that its plan is not in leave all that is shown but its upload
  module _ (st : State) (s s' : Store) (ranged : in_range (view_in F st s) ≡ true) (k : ℕ) (known : is_known k ≡ true) (low high : ℕ)
      (leaves : Leaves F (not (plan_of st k).half) k low high s s') where
    items_stay : (j : ℕ) → is_known j ≡ true → items_in F s' (plan_of st j).half j (plan_of st j).len ≡ items_in F s (plan_of st j).half j (plan_of st j).len
    items_stay j known' =
        items_left F (not (plan_of st k).half) k low high s s' leaves (plan_of st j).half j (plan_of st j).len (leb-true j rally known') (len_ranged st s ranged j known')
        (λ i below. away i (ℕ_discrete j k))
      where
        away : (i : ℕ) → Dec (j ≡ k) → Elsewhere (not (plan_of st k).half) k low high (plan_of st j).half j i
        away i (yes e) = other_half (ap (λ (n : ℕ). (plan_of st n).half) e ∙ sym (not-not (plan_of st k).half))
        away i (no e) = other_kind e

    uploads_elsewhere : (j : ℕ) → is_known j ≡ true → (j ≡ k → ⊥) → (u : Option Run) → (plan_of st j).upload ≡ u → upload_in F s' (not (plan_of st j).half) j u ≡ upload_in F s (not (plan_of st j).half) j u
    unfolding upload_in
    uploads_elsewhere j known' other None e = refl
    uploads_elsewhere j known' other (Some q) e =
        ap (λ (l : List Bytes). running (record { station = station_in q; task = task_in q; next = q.next; taken = drop q.first l; started = q.started; repeats = q.repeats }))
        (items_left F (not (plan_of st k).half) k low high s s' leaves (not (plan_of st j).half) j q.next (leb-true j rally known')
        (let below = next_below st s ranged j known' q e in omega arith) (λ i below. other_kind other))

    pub shown_stays : (view_in F st s').shown ≡ (view_in F st s).shown
    unfolding view_in
    shown_stays = rw (items_stay flight refl, items_stay fence refl, items_stay rally refl)

    pub uploads_stay : (u : model.Upload) → set (view_in F st s').uploads k u ≡ set (view_in F st s).uploads k u
    unfolding view_in
    uploads_stay u = by k known (λ j known' other. uploads_elsewhere j known' other (plan_of st j).upload refl)
      where
        Elsewhere-same : ℕ → Type 0
        Elsewhere-same n = (j : ℕ) → is_known j ≡ true → (j ≡ n → ⊥) → upload_in F s' (not (plan_of st j).half) j (plan_of st j).upload ≡ upload_in F s (not (plan_of st j).half) j (plan_of st j).upload

        by : (n : ℕ) → is_known n ≡ true → Elsewhere-same n → set (view_in F st s').uploads n u ≡ set (view_in F st s).uploads n u
        by =
            each_kind (λ (n : ℕ). Elsewhere-same n → set (view_in F st s').uploads n u ≡ set (view_in F st s).uploads n u)
            (λ same. rw (same fence refl (λ e. omega arith), same rally refl (λ e. omega arith)))
            (λ same. rw (same flight refl (λ e. omega arith), same rally refl (λ e. omega arith)))
            (λ same. rw (same flight refl (λ e. omega arith), same fence refl (λ e. omega arith)))

    -- the upload of the kind becomes another
    pub upload_after : length st.plans ≡ length kinds → (from : Station) (u : Option Run) (say : Say) (a : Answer) → answer_of say from k ≡ a
        → Agree F (after_turn st s' k from (moves (with_upload (plan_of st k) u) say))
        (record { model = record { shown = (view_in F st s).shown; uploads = set (view_in F st s).uploads k (upload_in F s' (not (plan_of st k).half) k u) }; answer = a })
    upload_after three from u say a e =
        record {
          model =
              view_upload F st s' three k u known
              ∙ ap₂ (λ (x : model.Shown) (y : List model.Upload). record { shown = x; uploads = y }) shown_stays (uploads_stay (upload_in F s' (not (plan_of st k).half) k u));
          answer = e;
        }

  -- a plan put in
  applied_puts : (partial : Bool) (st : State) (k : ℕ) (p : Plan) → applied st k (cond partial (Changes p) (Renews p)) ≡ renewed_state partial st k p
  applied_puts true st k p = refl
  applied_puts false st k p = refl

  -- a write at the next place of an upload's half
  module _ (st : State) (s : Store) (long : least F ≤ length s) (ranged : in_range (view_in F st s) ≡ true)
      (k : ℕ) (known : is_known k ≡ true) (r : Run) (running-it : (plan_of st k).upload ≡ Some r) (item : Item) where
    abbrev other : Bool
    other = not (plan_of st k).half

    abbrev s' : Store
    s' = put_at F s other k r.next (F.keeps item)

    small : k ≤ rally
    small = leb-true k rally known

    below : r.next < size_of k
    below = next_below st s ranged k known r running-it

    ranges : RunRanges k (plan_of st k).len (run_in F s other k r)
    ranges = run_ranged_lem st s ranged k known r running-it

    pub written : Leaves F other k r.next (r.next + 1) s s'
    written = put_leaves F lawful s long (F.keeps item) (lawful.wide item) other k r.next small below

    long' : least F ≤ length s'
    long' = omega (arith, written.long)

    -- the store when the upload has its last item
    abbrev s'' : Store
    s'' = settled F s' k (plan_of st k) r

    pub settled_leaves : Leaves F other k 0 r.count s s''
    unfolding settled
    settled_leaves =
        let t = ranges.task in
        let all : Leaves F other k 0 r.count s s' =
        leaves_wider F other k r.next (r.next + 1) 0 r.count s s' (omega arith) (let a = t.upto in let b = t.inside in omega arith) written in
        go all r.partial refl
      where
        go : Leaves F other k 0 r.count s s' → (b : Bool) → r.partial ≡ b → Leaves F other k 0 r.count s (cond b (filled F s' (plan_of st k).half k (task_in r)) s')
        go all true part =
            leaves_both F other k 0 r.count s s' (filled F s' (plan_of st k).half k (task_in r)) all
            (filled_leaves F lawful (plan_of st k).half k small s' long' (task_in r) r.next (plan_of st k).len ranges.task ranges.most)
        go all false part = all

    abbrev run : model.Run
    run = run_in F s other k r

    -- the item is of the kind, and has the number that is expected: what is stored is the item
    module _ (of_kind : item.kind ≡ k) (numbered : item.seq ≡ r.next) where
      abbrev got : List Bytes
      got = run.taken ++ (item_of item ∷ [])

      more : items_in F s' other k (r.next + 1) ≡ items_in F s other k r.next ++ (item_of item ∷ [])
      more =
          rw add-one
          (items_more F lawful s long (F.keeps item) (lawful.wide item) other k r.next small below
          ∙ ap (λ (b : Bytes). items_in F s other k r.next ++ (b ∷ [])) (stored_item F lawful item k r.next of_kind numbered))

      taken_more : drop r.first (items_in F s' other k (r.next + 1)) ≡ got
      taken_more =
          ap (drop r.first) more
          ∙ drop-append-le r.first (items_in F s other k r.next) (item_of item ∷ []) (let a = ranges.task.begun in omega (arith, length_items F s other k r.next))

      -- the last item is in the store: what stands in the other half is what the rules put in
      whole_shown : r.next ≡ r.last → items_in F s'' other k r.count ≡ whole (task_in r) (items_in F s (plan_of st k).half k (plan_of st k).len) got
      unfolding settled whole
      whole_shown last = go r.partial refl
        where
          old : List Bytes
          old = items_in F s (plan_of st k).half k (plan_of st k).len

          go : (b : Bool) → r.partial ≡ b → items_in F (cond r.partial (filled F s' (plan_of st k).half k (task_in r)) s') other k r.count ≡ whole (task_in r) old got
          go true part =
              ap (λ (b : Bool). items_in F (cond b (filled F s' (plan_of st k).half k (task_in r)) s') other k r.count) part
              ∙ part_whole F lawful (plan_of st k).half k small s' long' (task_in r) r.next (plan_of st k).len ranges.task ranges.most part
              ∙ ap₂ (whole (task_in r)) (items_stay st s s' ranged k known r.next (r.next + 1) written k known)
              (ap (λ (n : ℕ). drop r.first (items_in F s' other k (n + 1))) (sym last) ∙ taken_more)
          go false all =
              let t = ranges.task in
              let count : r.count ≡ r.next + 1 = (let e = t.to_end all in omega arith) in
              ap (λ (b : Bool). items_in F (cond b (filled F s' (plan_of st k).half k (task_in r)) s') other k r.count) all
              ∙ ap (items_in F s' other k) count
              ∙ ap (λ (n : ℕ). drop n (items_in F s' other k (r.next + 1))) (sym (t.from_start all))
              ∙ taken_more
              ∙ ap (λ (b : Bool). cond b (take r.first old ++ got ++ drop (r.last + 1) old) got) (sym all)

      module _ (three : length st.plans ≡ length kinds) (from : Station) (now : ℕ) where
        abbrev Both : TurnAndStore → Stepped → Type 0
        Both t m = Agree F (after_item st k from t) m

        -- one item taken
        valid_more :
            Agree F (after_turn st s' k from (moves (with_upload (plan_of st k) (Some (one_more r now))) (Ask (r.next + 1))))
            (record {
              model =
                  record {
                    shown = (view_in F st s).shown;
                    uploads = set (view_in F st s).uploads k (running (record { station = run.station; task = task_in r; next = r.next + 1; taken = got; started = now; repeats = 0 }));
                  };
              answer = requests from (r.next + 1) k;
            })
        unfolding upload_in
        valid_more =
            let after = upload_after st s s' ranged k known r.next (r.next + 1) written three from (Some (one_more r now)) (Ask (r.next + 1)) (requests from (r.next + 1) k) refl in
            record {
              model =
                  after.model
                  ∙ ap
                  (λ (l : List Bytes). record { shown = (view_in F st s).shown; uploads = set (view_in F st s).uploads k (running (record { station = run.station; task = task_in r; next = r.next + 1; taken = l; started = now; repeats = 0 })) })
                  taken_more;
              answer = after.answer;
            }

        abbrev items : List Bytes
        items = whole (task_in r) (model.plan_of (view_in F st s).shown k).items got

        whole_is : r.next ≡ r.last → items_in F s'' other k r.count ≡ items
        whole_is last = whole_shown last ∙ ap (λ (p : model.Plan). whole (task_in r) p.items got) (sym (plan_shown F st s k known))

        number_put : (model.plan_of (model.put r.partial k items (view_in F st s).shown) k).number ≡ next_number (plan_of st k).number
        unfolding view_in model.put with_plan
        number_put =
            each_kind (λ (j : ℕ). (model.plan_of (model.put r.partial j items (view_in F st s).shown) j).number ≡ next_number (plan_of st j).number) refl refl refl k known

        -- the last one: the plan is replaced
        valid_last :
            r.next ≡ r.last
            → Agree F (after_turn st s'' k from (puts_in r.partial (replaced (plan_of st k) r.count) (Ack (Ok (next_number (plan_of st k).number)))))
            (rule.replaced (view_in F st s) from r.partial k items)
        unfolding upload_in model.put
        valid_last last =
            let new = replaced (plan_of st k) r.count in
            let stay = settled_leaves in
            record {
              model =
                  ap (λ (x : State). view_in F x s'') (applied_puts r.partial st k new)
                  ∙ view_renewed F st s'' three r.partial k new known
                  ∙ ap₂ (λ (x : model.Shown) (y : List model.Upload). record { shown = with_plan r.partial k (plan_in F s'' k new) x; uploads = y })
                  (shown_stays st s s'' ranged k known 0 r.count stay) (uploads_stay st s s'' ranged k known 0 r.count stay idle)
                  ∙ ap₂
                  (λ (l : List Bytes) (n : ℕ). record { shown = with_plan r.partial k (record { items = l; number = next_number n }) (view_in F st s).shown; uploads = set (view_in F st s).uploads k idle })
                  (whole_is last) (sym (ap (λ (q : model.Plan). q.number) (plan_shown F st s k known)));
              answer = ap (λ (n : ℕ). says (ack from accepted k n)) (sym number_put);
            }

        at_last :
            r.next ≡ r.last
            → Both (turn_with (last_turned F s'' k (plan_of st k) r) s'')
            (cond (eqb (whole_fault k (task_in r) items) accepted) (rule.replaced (view_in F st s) from r.partial k items)
            (record { model = record { shown = (view_in F st s).shown; uploads = set (view_in F st s).uploads k idle }; answer = acks from (whole_fault k (task_in r) items) k }))
        unfolding last_turned upload_in
        at_last last =
            rw (whole_is last)
            (either₂ (λ (t : Turned) (m : Stepped). Agree F (after_turn st s'' k from t) m) (eqb (whole_fault k (task_in r) items) accepted) (λ t. valid_last last)
            (λ t. let result = whole_fault k (task_in r) items in
            upload_after st s s'' ranged k known 0 r.count settled_leaves three from None (Ack (Err (fault_named result))) (acks from result k)
            (ap (λ (n : ℕ). acks from n k) ((whole_named k (task_in r) items).named t))))

        valid_agrees : Both (valid_item_turned F s' k (plan_of st k) r now) (on_valid_item (view_in F st s) from now k run (item_of item))
        unfolding valid_item_turned on_valid_item
        valid_agrees =
            either₂ Both (not (eqb r.next r.last)) (λ t. valid_more) (λ last. at_last (eqb-true r.next r.last (not-false (eqb r.next r.last) last)))

    module _ (of_kind : item.kind ≡ k) (three : length st.plans ≡ length kinds) (from : Station) (now : ℕ) where
      item_runs : Agree F (after_item st k from (item_turned F st.home s k (Some r) (plan_of st k) from now item)) (on_item (running run) (view_in F st s) from now k item)
      unfolding item_turned on_item view_in
      item_runs =
          either₂ Both' (not (same_station from (station_in r))) (λ t. kept F st s three k known from (Ack (Err Denied)) (acks from denied k) refl)
          (λ t. either₂ Both' (not (eqb item.seq r.next)) (λ t. kept F st s three k known from (Ask r.next) (requests from r.next k) refl)
          (λ turn. either₂ Both' (not (eqb (item_verdict F st.home s k (plan_of st k) r item) accepted))
          (λ t. let verdict = item_verdict F st.home s k (plan_of st k) r item in
          ends F st s three k known from (Ack (Err (fault_named verdict))) (acks from verdict k)
          (ap (λ (n : ℕ). acks from n k) ((verdict_named st.home k (task_in r) r.next run.taken item).named (not-true (eqb verdict accepted) t))))
          (λ t. valid_agrees of_kind (eqb-true item.seq r.next (not-false (eqb item.seq r.next) turn)) three from now)))
        where
          Both' : TurnAndStore → Stepped → Type 0
          Both' t m = Agree F (after_item st k from t) m

  -- an item of a known kind
  pub item_agrees :
      (st : State) (s : Store) → length st.plans ≡ length kinds → least F ≤ length s → in_range (view_in F st s) ≡ true → (k : ℕ) → is_known k ≡ true
      → (from : Station) (now : ℕ) (item : Item) → item.kind ≡ k
      → Agree F (after_item st k from (item_turned F st.home s k (plan_of st k).upload (plan_of st k) from now item)) (on_item (model.upload_of (view_in F st s) k) (view_in F st s) from now k item)
  unfolding item_turned on_item upload_in
  item_agrees st s three long ranged k known from now item of_kind = rw (upload_shown F st s k known) (by (plan_of st k).upload refl)
    where
      by : (u : Option Run) → (plan_of st k).upload ≡ u
          → Agree F (after_item st k from (item_turned F st.home s k u (plan_of st k) from now item)) (on_item (upload_in F s (not (plan_of st k).half) k u) (view_in F st s) from now k item)
      by None e = kept F st s three k known from (Ack (Err InvalidSequence)) (acks from invalid_sequence k) refl
      by (Some r) e = item_runs st s long ranged k known r e item of_kind three from now
