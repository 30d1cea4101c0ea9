-- What demand 3 says of the service in plain terms: of the state and the store before and after, and of what the calls gave. Each follows from demand 3
-- by what the rules alone say of lists of calls (`call_lists`).
use Rattle.std.specs.Prelude.{ℕ, ◌+◌, ◌≤◌, ◌<◌, ◌≡◌, refl, ◌⊎◌, Bool, true, List, [], ◌∷◌, ◌++◌, map, length, get_or}
use Rattle.std.proofs.Common.{sym, ap, subst, ◌∙◌}
use Rattle.std.proofs.lemmas.List.{map-append}
use Rattle.std.proofs.Math.Seq.{get_or-append_seam}
use Rattle.rules.specs.Limits.{flight, every_kind, denied}
use Rattle.rules.specs.Payload.{Bytes}
use Rattle.rules.specs.Messages.{Station, Item, Message, ack, request_int, item_int, decode, item_of}
use Rattle.rules.specs.Model.{Task, Shown, Model, fresh, plan_of, length_of, upload_of, no_counts, next_number, put}
use Rattle.rules.specs.Calls.{Call, Request, clears, asks_item, brings, request, expiry, command_done}
use Rattle.rules.specs.Step.{Answer, says, ReadsBack, current_field, step, run, answers}
use Rattle.rule_laws.specs.Fitting.{CallsFit}
use Rattle.call_lists.specs.Uploads.{shown_by, hears, answer_to, Starts, expected_by, Open, Completes}
use Rattle.call_lists.specs.Corollaries as rule
use Rattle.call_lists.specs.Corollaries.{Says, Spares, NeverCompleted, NeverSteered, Unsteered, progress_of, since, uploaded_items}
use Rattle.call_lists.specs.Home.{Carries, home_never_flown, never_begun}
use Rattle.call_lists.specs.Laws.Lists.{answers_snoc}
use Rattle.call_lists.specs.Laws.Setting.{step_home, setting}
use Rattle.claims.specs.Demand3.{Got, got_of, AllRead, stop, call}
use Rattle.claims.specs.Service.{World, start, shows, Trace, demand_3}
use Rattle.places.specs.Forms.{Store}
use Rattle.plan.specs.View.{view_in}

-- ---- one more call

append : {w v z : World} {cs ds : List Call} {gs hs : List Got} → Trace w cs gs v → Trace v ds hs z → Trace w (cs ++ ds) (gs ++ hs) z
append (stop w) more = more
append {z = z} {ds = ds} {hs = hs} (call w c lent lent' rest b b' r cs gs v store len buffer serves later) more =
    call w c lent lent' rest b b' r (cs ++ ds) (gs ++ hs) z store len buffer serves (append later more)

-- After the calls `pre` from a fresh start with a setting, over a store, c is called: the worlds before and after it, and what it gave
pub record Called (home : Bool) (pre : List Call) (c : Call) (v : World) (g : Got) (w : World) : Type 0 where
  pub store : Store
  pub given : List Got
  pub before : Trace (start home store) pre given v
  pub made : Trace v (c ∷ []) (g ∷ []) w

last_same : {A : Type 0} (l : List A) (a b : A) → l ++ (a ∷ []) ≡ l ++ (b ∷ []) → a ≡ b
last_same {A} l a b e = sym (get_or-append_seam l a [] a) ∙ ap (λ (k : List A). get_or k (length l) a) e ∙ get_or-append_seam l b [] a

last_read : (gs : List Got) (g : Got) (rest : List Answer) (a : Answer) → AllRead (gs ++ (g ∷ [])) (rest ++ (a ∷ [])) → ReadsBack a g.id g.reply
last_read [] g [] a h = h.0
last_read [] g (x ∷ []) a h = absurd h.1
last_read [] g (x ∷ y ∷ rest) a h = absurd h.1
last_read (f ∷ []) g [] a h = absurd h.1
last_read (f ∷ e ∷ gs) g [] a h = absurd h.1
last_read (f ∷ gs) g (x ∷ rest) a h = last_read gs g rest a h.1

module _ {home : Bool} {pre : List Call} {c : Call} {v w : World} {g : Got} (called : Called home pre c v g w) where
  all : Trace (start home called.store) (pre ++ (c ∷ [])) (called.given ++ (g ∷ [])) w
  all = append called.before called.made

  before : shows v ≡ run (fresh home) pre
  before = (demand_3 home called.store pre called.given v called.before).model

  after : shows w ≡ run (fresh home) (pre ++ (c ∷ []))
  after = (demand_3 home called.store (pre ++ (c ∷ [])) (called.given ++ (g ∷ [])) w all).model

  gave : g ≡ got_of (answer_to home pre c)
  gave =
      let earlier = map got_of (answers (fresh home) pre) in
      last_same earlier g (got_of (answer_to home pre c))
      (ap (λ (l : List Got). l ++ (g ∷ [])) (sym (demand_3 home called.store pre called.given v called.before).answered)
      ∙ (demand_3 home called.store (pre ++ (c ∷ [])) (called.given ++ (g ∷ [])) w all).answered
      ∙ ap (map got_of) (answers_snoc (fresh home) pre c)
      ∙ map-append got_of (answers (fresh home) pre) (answer_to home pre c ∷ []))

  reads : ReadsBack (answer_to home pre c) g.id g.reply
  reads =
      last_read called.given g (answers (fresh home) pre) (answer_to home pre c)
      (subst (AllRead (called.given ++ (g ∷ []))) (answers_snoc (fresh home) pre c)
      (demand_3 home called.store (pre ++ (c ∷ [])) (called.given ++ (g ∷ [])) w all).reads)

-- ---- half an upload leaves the old plan whole

-- what is seen of the model after two lists of calls is what is seen after the first, where the rules say so
seen_same :
    {A : Type 0} (seen : Model → A) {home : Bool} {s : Store} {pre post : List Call} {gs hs : List Got} {v w : World} → Trace (start home s) pre gs v → Trace v post hs w
    → seen (run (fresh home) (pre ++ post)) ≡ seen (run (fresh home) pre) → seen (shows w) ≡ seen (shows v)
seen_same seen {home} {s} {pre} {post} {gs} {hs} {v} {w} first more by_rule =
    ap seen (demand_3 home s (pre ++ post) (gs ++ hs) w (append first more)).model ∙ by_rule ∙ sym (ap seen (demand_3 home s pre gs v first).model)

-- While an upload is open, of all items or of a few, state and store show the plan of its kind that they showed before its COUNT or 38, every byte of every item;
pub old_plan_stands :
    {home : Bool} {s : Store} {pre post : List Call} {gs hs : List Got} {v w : World} → Trace (start home s) pre gs v → Trace v post hs w
    → {k : ℕ} {o : Station} {t : Task} {got : List Bytes} {started repeats : ℕ} (up : Open home k o t (pre ++ post) got started repeats) → since home up ≡ pre
    → plan_of (shows w).shown k ≡ plan_of (shows v).shown k
old_plan_stands {home} first more {k} up announced =
    seen_same (λ (m : Model). plan_of m.shown k) first more (rule.half_sent home up ∙ ap (λ (cs : List Call). plan_of (shown_by home cs) k) announced)

-- and if it is never completed, they show it whatever comes then, until a call completes an upload of the kind or empties its plan.
pub never_completed :
    {home : Bool} {s : Store} {pre post : List Call} {gs hs : List Got} {v w : World} → Trace (start home s) pre gs v → Trace v post hs w
    → {k : ℕ} → NeverCompleted home k pre (pre ++ post) → plan_of (shows w).shown k ≡ plan_of (shows v).shown k
never_completed {home} first more {k} none = seen_same (λ (m : Model). plan_of m.shown k) first more (rule.never_completed home none)

-- Of a flight plan also the current item, whether it is begun, and the jump counts: while the upload is open and nothing steers,
pub progress_stands :
    {home : Bool} {s : Store} {pre post : List Call} {gs hs : List Got} {v w : World} → Trace (start home s) pre gs v → Trace v post hs w
    → {o : Station} {t : Task} {got : List Bytes} {started repeats : ℕ} (up : Open home flight o t (pre ++ post) got started repeats) → since home up ≡ pre → Unsteered home up
    → progress_of (shows w).shown ≡ progress_of (shows v).shown
progress_stands {home} first more up announced calm =
    seen_same (λ (m : Model). progress_of m.shown) first more (rule.half_sent_progress home up calm ∙ ap (λ (cs : List Call). progress_of (shown_by home cs)) announced)

-- and then.
pub never_steered :
    {home : Bool} {s : Store} {pre post : List Call} {gs hs : List Got} {v w : World} → Trace (start home s) pre gs v → Trace v post hs w
    → NeverSteered home pre (pre ++ post) → progress_of (shows w).shown ≡ progress_of (shows v).shown
never_steered {home} first more none = seen_same (λ (m : Model). progress_of m.shown) first more (rule.never_steered home none)

module _ {home : Bool} {pre : List Call} {c : Call} {v w : World} {g : Got} (called : Called home pre c v g w) where
  -- A call that neither completes an upload of a kind nor empties its plan leaves that plan as it stood.
  pub plan_stands : (k : ℕ) → Spares home pre c k → plan_of (shows w).shown k ≡ plan_of (shows v).shown k
  plan_stands k spares =
      ap (λ (m : Model). plan_of m.shown k) (after called)
      ∙ rule.plan_stands home pre c k spares
      ∙ sym (ap (λ (m : Model). plan_of m.shown k) (before called))

  -- Giving up changes no plan: a timer call never does.
  pub timer_spares : (now j : ℕ) → hears c ≡ expiry now j → (k : ℕ) → plan_of (shows w).shown k ≡ plan_of (shows v).shown k
  timer_spares now j sent k = plan_stands k (rule.expiry_spares home pre c k now j sent)

  -- ---- a completed upload

  -- At its last item an upload takes effect at one stroke: what is shown is what was shown, with the items put in.
  pub takes_effect_lem : (k : ℕ) (items : List Bytes) (done : Completes home pre c k items) → (shows w).shown ≡ put done.task.partial k items (shows v).shown
  takes_effect_lem k items completed =
      ap (λ (m : Model). m.shown) (after called)
      ∙ (demand_3 home called.store (pre ++ (c ∷ [])) (called.given ++ (g ∷ [])) w (all called)).takes_effect pre [] c refl k items completed
      ∙ ap (λ (m : Model). put completed.task.partial k items m.shown) (sym (before called))

  -- What the last of a few items makes of the plan: (M-108) "the plan with those items changed replaces the old one at one stroke, all others staying bit for bit".
  pub record FewChanged (k : ℕ) (items : List Bytes) (done : Completes home pre c k items) : Type 0 where
    -- as many items as before
    pub long : length_of (shows w).shown k ≡ length_of (shows v).shown k
    -- every item outside the range as it was
    pub outside :
        (i : ℕ) → i < length_of (shows v).shown k → (i < done.task.first) ⊎ (done.task.last < i)
        → get_or (plan_of (shows w).shown k).items i [] ≡ get_or (plan_of (shows v).shown k).items i []
    -- the sender's items inside it, all of them
    pub sent : done.task.first + length (uploaded_items home done) ≡ done.task.last + 1
    pub inside :
        (i : ℕ) (d : Item) → i < length (uploaded_items home done)
        → get_or (plan_of (shows w).shown k).items (done.task.first + i) [] ≡ item_of (get_or (uploaded_items home done) i d)
    -- "For flight, current item and begun stay and jump counts become 0; a new plan number is given."
    pub current : (shows w).shown.current ≡ (shows v).shown.current
    pub begun : (shows w).shown.begun ≡ (shows v).shown.begun
    pub counts : k ≡ flight → (shows w).shown.counts ≡ no_counts
    pub number : (plan_of (shows w).shown k).number ≡ next_number (plan_of (shows v).shown k).number

  pub few_changed : (k : ℕ) (items : List Bytes) (done : Completes home pre c k items) → done.task.partial ≡ true → FewChanged k items done
  few_changed k items done part =
      let here = rule.placed home pre c k items done in
      let was : shown_by home pre ≡ (shows v).shown = sym (ap (λ (m : Model). m.shown) (before called)) in
      let is : (shows w).shown ≡ shown_by home (pre ++ (c ∷ [])) = ap (λ (m : Model). m.shown) (after called) in
      let long : length_of (shown_by home (pre ++ (c ∷ []))) k ≡ length_of (shown_by home pre) k = here.long ∙ here.part part in
      record {
        long = ap (λ (x : Shown). length_of x k) is ∙ long ∙ ap (λ (x : Shown). length_of x k) was;
        outside = λ i below apart.
            ap (λ (x : Shown). get_or (plan_of x k).items i []) is
            ∙ here.outside i (subst (λ (n : ℕ). i < n) (sym (long ∙ ap (λ (x : Shown). length_of x k) was)) below) apart
            ∙ ap (λ (x : Shown). get_or (plan_of x k).items i []) was;
        sent = here.sent;
        inside = λ i d below. ap (λ (x : Shown). get_or (plan_of x k).items (done.task.first + i) []) is ∙ here.inside i d below;
        current = ap (λ (x : Shown). x.current) is ∙ here.current part ∙ ap (λ (x : Shown). x.current) was;
        begun = ap (λ (x : Shown). x.begun) is ∙ here.begun part ∙ ap (λ (x : Shown). x.begun) was;
        counts = λ e. ap (λ (x : Shown). x.counts) is ∙ here.counts e;
        number = ap (λ (x : Shown). (plan_of x k).number) is ∙ here.number ∙ ap (λ (x : Shown). next_number (plan_of x k).number) was;
      }

  -- ---- a call that is answered and changes nothing

  -- what a call gave is this message, as the rules write it and as it is read; and state and store show what they showed
  pub record Answers (reply : Message) : Type 0 where
    pub gives : g ≡ got_of (says reply)
    pub read : decode g.id g.reply ≡ reply
    pub unchanged : shows w ≡ shows v

  answers_by : (reply : Message) → Says home pre c (says reply) → Answers reply
  answers_by reply by_rule =
      record {
        gives = gave called ∙ ap got_of by_rule.answer;
        read = subst (λ (a : Answer). ReadsBack a g.id g.reply) by_rule.answer (reads called);
        unchanged = after called ∙ by_rule.unchanged ∙ sym (before called);
      }

  -- An item out of turn, a repeated one among them, changes nothing and is answered by a request for the expected one.
  pub out_of_turn :
      (k : ℕ) (o : Station) (t : Task) (got : List Bytes) (started repeats now : ℕ) (item : Item) → Open home k o t pre got started repeats
      → hears c ≡ request o now k (brings item) → (item.seq ≡ expected_by t got → ⊥) → Answers (request_int o (expected_by t got) k)
  out_of_turn k o t got started repeats now item up sent other =
      answers_by (request_int o (expected_by t got) k) (rule.out_of_turn home pre c k o t got started repeats now item up sent other)

  -- A second station's COUNT or 38 of the same kind is denied and changes nothing.
  pub second_station :
      (k : ℕ) (o o' : Station) (t : Task) (q : Request) (got : List Bytes) (started repeats now : ℕ) → Open home k o t pre got started repeats → (o' ≡ o → ⊥)
      → Starts q → hears c ≡ request o' now k q → Answers (ack o' denied k 0)
  second_station k o o' t q got started repeats now up other starts sent =
      answers_by (ack o' denied k 0) (rule.second_station home pre c k o o' t q got started repeats now up other starts sent)

  -- ---- kinds apart

  -- a kind's plan and upload are what they were
  pub record Untouched (k : ℕ) : Type 0 where
    pub plan : plan_of (shows w).shown k ≡ plan_of (shows v).shown k
    pub upload : upload_of (shows w) k ≡ upload_of (shows v) k

  untouched_by : (k : ℕ) → rule.Untouched home pre c k → Untouched k
  untouched_by k by_rule =
      record {
        plan = ap (λ (m : Model). plan_of m.shown k) (after called) ∙ by_rule.plan ∙ sym (ap (λ (m : Model). plan_of m.shown k) (before called));
        upload = ap (λ (m : Model). upload_of m k) (after called) ∙ by_rule.upload ∙ sym (ap (λ (m : Model). upload_of m k) (before called));
      }

  -- Calls about one kind leave the other kinds' plans and uploads as they are: messages, but for a clear of every kind,
  pub message_apart :
      (k j : ℕ) (o : Station) (now : ℕ) (q : Request) → hears c ≡ request o now j q → (j ≡ k → ⊥) → (q ≡ clears → j ≡ every_kind → ⊥) → Untouched k
  message_apart k j o now q sent apart notall = untouched_by k (rule.message_apart home pre c k j o now q sent apart notall)

  -- timer calls, and "command done".
  pub timer_apart : (k j now : ℕ) → hears c ≡ expiry now j → (j ≡ k → ⊥) → Untouched k
  timer_apart k j now sent apart = untouched_by k (rule.timer_apart home pre c k j now sent apart)

  pub done_apart : (k : ℕ) → hears c ≡ command_done → Untouched k
  done_apart k sent = untouched_by k (rule.done_apart home pre c k sent)

-- ---- the item that comes back

-- After an upload by calls that fit took effect, REQUEST_INT of its number i, counted from its first (0 of a whole upload), is answered with the sender's item i: what was given is
-- read as that item, bit for bit.
pub item_comes_back :
    {home : Bool} {pre : List Call} {c c' : Call} {k : ℕ} {items : List Bytes} {v w : World} {g : Got} → Called home (pre ++ (c ∷ [])) c' v g w → (done : Completes home pre c k items)
    → CallsFit (pre ++ (c ∷ [])) → (o : Station) (now i : ℕ) (d : Item) → hears c' ≡ request o now k (asks_item (done.task.first + i)) → i < length (uploaded_items home done)
    → decode g.id g.reply ≡ item_int o (current_field k (done.task.first + i) (shows v).shown.current) (get_or (uploaded_items home done) i d)
item_comes_back {home} {pre} {c} {c'} {k} {items} {v} {w} {g} called done fit o now i d sent below =
    subst (λ (a : Answer). ReadsBack a g.id g.reply) (rule.item_answered home pre c c' k items done o now i d fit sent below) (reads called)
    ∙ ap (λ (m : Model). item_int o (current_field k (done.task.first + i) m.shown.current) (get_or (uploaded_items home done) i d)) (sym (before called))

-- ---- item 0 as home

-- After every list of calls the setting is the one "chosen at the fresh start".
pub setting_stands : {home : Bool} {s : Store} {cs : List Call} {gs : List Got} {w : World} → Trace (start home s) cs gs w → w.state.home ≡ home
unfolding view_in
setting_stands {home} {s} {cs} {gs} {w} trace = ap (λ (m : Model). m.shown.home) (demand_3 home s cs gs w trace).model ∙ setting home cs

-- none of what was given is a command with this number
abbrev pub NoneCarries : List Got → (i : ℕ) → Type 0
NoneCarries [] i = Unit {0}
NoneCarries (g ∷ gs) i = (Carries g.command i → ⊥) × NoneCarries gs i

none_carries : (m : Model) → m.shown.home ≡ true → (cs : List Call) → NoneCarries (map got_of (answers m cs)) 0
unfolding answers
none_carries m is [] = tt
none_carries m is (c ∷ cs) = (home_never_flown m is c, none_carries (step m c).model (step_home m c ∙ is) cs)

-- With the setting no answer carries number 0: (M-109) item 0 "is never flown",
pub home_not_flown : {s : Store} {cs : List Call} {gs : List Got} {w : World} → Trace (start true s) cs gs w → NoneCarries gs 0
home_not_flown {s} {cs} {gs} {w} trace =
    subst (λ (l : List Got). NoneCarries l 0) (sym (demand_3 true s cs gs w trace).answered) (none_carries (fresh true) refl cs)

-- and never begun.
pub home_not_begun : {s : Store} {cs : List Call} {gs : List Got} {w : World} → Trace (start true s) cs gs w → w.state.begun ≡ true → 1 ≤ w.state.current
unfolding view_in
home_not_begun {s} {cs} {gs} {w} trace =
    subst (λ (m : Model). m.shown.begun ≡ true → 1 ≤ m.shown.current) (sym (demand_3 true s cs gs w trace).model) (never_begun cs)
