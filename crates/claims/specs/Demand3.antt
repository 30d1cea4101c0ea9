-- Demand 3: one statement over every list of calls, each lent the state and a front part of the store as the last one left them.
use Rattle.std.specs.Prelude.{ℕ, ◌≤◌, ◌<◌, ◌≡◌, refl, Bool, true, false, length, take, drop, ltb}
use Rattle.std.proofs.Common.{sym, ap, subst, ◌∙◌, take_at, ltb-false}
use Rattle.std.proofs.Math.Path.{ap₂}
use mathlib.Core.List.{List, [], ◌∷◌, ◌++◌, map}
use Rattle.rules.specs.Limits.{rally, store_words, size_of, out_of_range, short_store}
use Rattle.rules.specs.Limits
use Rattle.rules.specs.Payload.{Bytes}
use Rattle.rules.specs.Messages.{Station, ack}
use Rattle.rules.specs.Model.{Model, Task, length_of, fresh, in_range, put, empty}
use Rattle.rules.specs.NextCommand.{Command}
use Rattle.rules.specs.Calls.{Call, message, timer, done, store_lent, buffer_lent, Request, announces, changes, request, heard}
use Rattle.rules.specs.Step.{Answer, refused, says, outcome_of, reply_id, reply_bytes, ReadsBack, command_in, is_refused, Stepped, act, step, run, answers}
use Rattle.refine.specs.Promise.{Result, Serves}
use Rattle.call_lists.specs.Uploads.{shown_by, answer_to, hears, let_in, Starts, Open, Alone, Completes, Empties, Stroke}
use Rattle.call_lists.specs.Rules.{never_out_of_range, only_strokes, takes_effect_lem, empties_effect, lets_in_lem, lets_part_in_lem, denies}
use Rattle.call_lists.specs.Laws.Ranged.{Formed, fresh_formed, formed_ranged}
use Rattle.call_lists.specs.Laws.Kept.{step_kept}
use Rattle.places.specs.Forms.{Store}

-- what a call gives beside the state: its outcome, its reply's id, length and bytes, and the command
pub record Got : Type 0 where
  pub outcome : ℕ
  pub id : ℕ
  pub len : ℕ
  pub reply : Bytes
  pub command : Command

-- what the rules' answer gives
abbrev pub got_of : Answer → Got
got_of a = record { outcome = outcome_of a; id = reply_id a; len = length (reply_bytes a); reply = reply_bytes a; command = command_in a }

-- each reply is read as the message that the rules' answer says, where it is one
abbrev pub AllRead : List Got → List Answer → Type 0
AllRead [] [] = Unit {0}
AllRead [] (a ∷ rest) = ⊥
AllRead (g ∷ gs) [] = ⊥
AllRead (g ∷ gs) (a ∷ rest) = ReadsBack a g.id g.reply × AllRead gs rest

-- `Lent c n` says that n of the store's numbers are what call c is lent: as many as the call says, where the store is counted as the rules count it.
module _ (State : Type 0) (view : State → Store → Model) (half : State → ℕ → Bool) (spare : State → Call → ℕ → Bool) (Lent : Call → ℕ → Type 0) where
  -- what a call with this result gave, the reply's bytes being the first of the buffer after it
  abbrev pub got : Result State → (buffer : Bytes) → Got
  got r buffer = record { outcome = r.outcome; id = r.id; len = r.len; reply = take r.len buffer; command = r.command }

  pub record World : Type 0 where
    pub state : State
    pub store : Store

  -- A list of calls with what they gave. Each call gets the state and the store as the last one left them, and nobody else writes them meanwhile; it is
  -- lent a front part of the store, and a reply buffer of any content.
  pub data Trace : World → List Call → List Got → World → Type 0 where
    stop : (w : World) → Trace w [] [] w
    call :
        (w : World) (c : Call) (lent lent' rest : Store) (b b' : Bytes) (r : Result State) (cs : List Call) (gs : List Got) (z : World)
        → w.store ≡ lent ++ rest → Lent c (length lent) → length b ≡ buffer_lent c
        → Serves State view half spare c w.state lent lent' b b' r
        → Trace (record { state = r.state; store = lent' ++ rest }) cs gs z
        → Trace w (c ∷ cs) (got r b' ∷ gs) z

  pub record Demand3 (home : Bool) (cs : List Call) (gs : List Got) (w : World) : Type 0 where
    -- "after the list the plans, plan numbers, current item, whether it is begun, and jump counts are exactly those of the book", the uploads and the setting too
    pub model : view w.state w.store ≡ run (fresh home) cs
    -- every answer is the rules', the bytes of its reply too
    pub answered : gs ≡ map got_of (answers (fresh home) cs)
    -- "What we write reads back as what was meant."
    pub reads : AllRead gs (answers (fresh home) cs)
    -- "15 can't come up"
    pub ranged : (pre post : List Call) (c : Call) → cs ≡ pre ++ (c ∷ post) → answer_to home pre c ≡ refused out_of_range → ⊥
    -- "only completed uploads, allowed clears, accepted item choices and advances change these, each at one stroke"
    pub only : (pre post : List Call) (c : Call) → cs ≡ pre ++ (c ∷ post) → Stroke home pre c (shown_by home (pre ++ (c ∷ [])))
    -- an upload that arrives takes effect at its last item: "the sender's own items taken since its count, as they came, all and in order"; (M-108) of a part "the sender's
    -- items taken since its 38, over the plan's from start to end"
    pub takes_effect :
        (pre post : List Call) (c : Call) → cs ≡ pre ++ (c ∷ post) → (k : ℕ) (items : List Bytes) (d : Completes home pre c k items)
        → shown_by home (pre ++ (c ∷ [])) ≡ put d.task.partial k items (shown_by home pre)
    -- "an empty one at its count", and an allowed clear
    pub empties :
        (pre post : List Call) (c : Call) → cs ≡ pre ++ (c ∷ post) → (ks : List ℕ) → Empties home pre c ks → shown_by home (pre ++ (c ∷ [])) ≡ empty ks (shown_by home pre)
    -- a fitting COUNT is let in unless another station's upload of the kind is open
    pub lets_in :
        (pre post : List Call) (c : Call) → cs ≡ pre ++ (c ∷ post) → (k : ℕ) (o : Station) (now n : ℕ) → hears c ≡ request o now k (announces n) → k ≤ rally → n ≤ size_of k
        → Alone home k o pre → let_in (answer_to home pre c) ≡ true
    -- so is a fitting MISSION_WRITE_PARTIAL_LIST
    pub lets_part_in :
        (pre post : List Call) (c : Call) → cs ≡ pre ++ (c ∷ post) → (k : ℕ) (o : Station) (now start end : ℕ) → hears c ≡ request o now k (changes start end)
        → k ≤ rally → start ≤ end → end < length_of (shown_by home pre) k → Alone home k o pre → let_in (answer_to home pre c) ≡ true
    -- either is denied then
    pub denied :
        (pre post : List Call) (c : Call) → cs ≡ pre ++ (c ∷ post) → (k : ℕ) (o o' : Station) (t : Task) (q : Request) (got : List Bytes) (started repeats now : ℕ)
        → Open home k o t pre got started repeats → (o' ≡ o → ⊥) → Starts q → hears c ≡ request o' now k q → answer_to home pre c ≡ says (ack o' Limits.denied k 0)

  -- demand 3, over the setting; (M-109) it "has it fixed for the whole run"
  abbrev pub Demand : (fresh_state : (home : Bool) → State) → Type 0
  Demand fresh_state = (home : Bool) (s : Store) (cs : List Call) (gs : List Got) (w : World) → Trace (record { state = fresh_state home; store = s }) cs gs w → Demand3 home cs gs w

  -- ---- what the proof asks of the view: a fresh state shows the fresh model, ranges are the state's own, and a call's part of the store is enough

  pub record Shows (fresh_state : (home : Bool) → State) : Type 0 where
    pub starts : (home : Bool) (s : Store) → view (fresh_state home) s ≡ fresh home
    pub ranges : (st : State) (s s' : Store) → in_range (view st s) ≡ in_range (view st s')
    -- how much of the store is enough
    pub least : ℕ
    pub counts : (c : Call) (n : ℕ) → Lent c n → ltb n least ≡ ltb (store_lent c) store_words
    pub front : (st : State) (lent rest : Store) → least ≤ length lent → in_range (view st lent) ≡ true → view st (lent ++ rest) ≡ view st lent

  module _ (fresh_state : (home : Bool) → State) (shows : Shows fresh_state) where
    -- one call from a formed model
    pub record Stepping (m : Model) (c : Call) (st' : State) (s' : Store) (g : Got) : Type 0 where
      pub after : view st' s' ≡ (step m c).model
      said : g ≡ got_of (step m c).answer
      read : ReadsBack (step m c).answer g.id g.reply

    module _ (c : Call) (st : State) (s s' : Store) (b b' : Bytes) (r : Result State) (serves : Serves State view half spare c st s s' b b' r) where
      said_by : got r b' ≡ got_of (step (view st s) c).answer
      said_by =
          let bytes = reply_bytes (step (view st s) c).answer in
          let reply : take r.len b' ≡ bytes = ap₂ take serves.len serves.buffer ∙ take_at bytes (drop (length bytes) b) (length bytes) refl in
          λ i. record { outcome = serves.outcome i; id = serves.id i; len = serves.len i; reply = reply i; command = serves.command i }

      -- what the promise says of the model shown, it says of a model that is shown
      stepping : (m : Model) → view st s ≡ m → (st' : State) (s'' : Store) → view st' s'' ≡ (step m c).model → Stepping m c st' s'' (got r b')
      stepping m e st' s'' after =
          record {
            after = after;
            said = said_by ∙ ap (λ (x : Model). got_of (step x c).answer) e;
            read = subst (λ (x : Model). ReadsBack (step x c).answer r.id (take r.len b')) e serves.reads;
          }

    -- a call lent too short a part is refused, whatever the model
    short : (m : Model) (c : Call) → ltb (store_lent c) store_words ≡ true → step m c ≡ record { model = m; answer = refused short_store }
    unfolding step act heard
    short m (message own from id payload clock store reply) e = rw e
    short m (timer kind clock store reply) e = rw e
    short m (done store) e = rw e

    pub one :
        (m : Model) (c : Call) (st : State) (lent lent' rest : Store) (b b' : Bytes) (r : Result State) → Formed m → view st (lent ++ rest) ≡ m → Lent c (length lent)
        → Serves State view half spare c st lent lent' b b' r → Stepping m c r.state (lent' ++ rest) (got r b')
    one m c st lent lent' rest b b' r f shown len serves = go (ltb (store_lent c) store_words) refl
      where
        ranged : in_range (view st lent) ≡ true
        ranged = shows.ranges st lent (lent ++ rest) ∙ ap in_range shown ∙ formed_ranged m f

        go : (t : Bool) → ltb (store_lent c) store_words ≡ t → Stepping m c r.state (lent' ++ rest) (got r b')
        go true t =
            let refusal : (x : Model) → step x c ≡ record { model = x; answer = refused short_store } = λ x. short x c t in
            let same = serves.unchanged (ap (λ (x : Stepped). is_refused x.answer) (refusal (view st lent))) in
            record {
              after =
                  ap₂ (λ (x : State) (l : Store). view x (l ++ rest)) same.0 same.1 ∙ shown ∙ sym (ap (λ (x : Stepped). x.model) (refusal m));
              said =
                  said_by c st lent lent' b b' r serves
                  ∙ ap (λ (x : Stepped). got_of x.answer) (refusal (view st lent)) ∙ sym (ap (λ (x : Stepped). got_of x.answer) (refusal m));
              read = subst (λ (x : Stepped). ReadsBack x.answer r.id (take r.len b')) (sym (refusal m)) tt;
            }
        go false t =
            let long : shows.least ≤ length lent = ltb-false (length lent) shows.least (shows.counts c (length lent) len ∙ t) in
            let before : view st lent ≡ m = sym (shows.front st lent rest long ranged) ∙ shown in
            let now : view r.state lent' ≡ (step m c).model = serves.model ∙ ap (λ (x : Model). (step x c).model) before in
            let kept : in_range (view r.state lent') ≡ true = ap in_range now ∙ formed_ranged (step m c).model (step_kept m c f) in
            stepping c st lent lent' b b' r serves m before r.state (lent' ++ rest)
            (shows.front r.state lent' rest (subst (λ (n : ℕ). shows.least ≤ n) (sym serves.long) long) kept ∙ now)

    record Ends (m : Model) (cs : List Call) (gs : List Got) (w : World) : Type 0 where
      model : view w.state w.store ≡ run m cs
      answered : gs ≡ map got_of (answers m cs)
      reads : AllRead gs (answers m cs)

    ends : {cs : List Call} {gs : List Got} {w z : World} (m : Model) → Formed m → view w.state w.store ≡ m → Trace w cs gs z → Ends m cs gs z
    unfolding run answers
    ends m f shown (stop w) = record { model = shown; answered = refl; reads = tt }
    ends m f shown (call w c lent lent' rest b b' r cs gs z store len buffer serves more) =
        let first = one m c w.state lent lent' rest b b' r f (ap (view w.state) (sym store) ∙ shown) len serves in
        let later = ends (step m c).model (step_kept m c f) first.after more in
        record {
          model = later.model;
          answered = ap₂ {C = List Got} (λ (g : Got) (l : List Got). g ∷ l) first.said later.answered;
          reads = (first.read, later.reads);
        }

    pub demand3 : Demand fresh_state
    demand3 home s cs gs w trace =
        let all = ends (fresh home) (fresh_formed home) (shows.starts home s) trace in
        record {
          model = all.model;
          answered = all.answered;
          reads = all.reads;
          ranged = λ pre post c e. never_out_of_range home pre c;
          only = λ pre post c e. only_strokes home pre c;
          takes_effect = λ pre post c e. takes_effect_lem home pre c;
          empties = λ pre post c e. empties_effect home pre c;
          lets_in = λ pre post c e. lets_in_lem home pre c;
          lets_part_in = λ pre post c e. lets_part_in_lem home pre c;
          denied = λ pre post c e. denies home pre c;
        }
