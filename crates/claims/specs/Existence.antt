-- Demand 3 speaks of something: every list of calls that fit, each lent no more than there is, has a trace from a fresh start, with either setting and over every store, in every form;
-- and what the service's calls promise is what traces are made of.
use Rattle.std.specs.Prelude.{ℕ, ◌+◌, ◌≤◌, ◌≡◌, refl, List, [], ◌∷◌, ◌++◌, Bool, true, length, take, drop, replicate}
use Rattle.std.proofs.Common.{sym, ap, subst, ◌∙◌, length-append, take-append-drop, length-take-le}
use Rattle.std.proofs.lemmas.List.{length-replicate}
use Rattle.rules.specs.Limits.{kinds}
use Rattle.rules.specs.Payload.{Bytes}
use Rattle.rules.specs.Model.{in_range}
use Rattle.rules.specs.Calls.{Call, store_lent, buffer_lent}
use Rattle.rules.specs.Step.{step}
use Rattle.rule_laws.specs.Fitting.{ModelFits, CallsFit}
use Rattle.rule_laws.specs.Fitted.{fresh_fits, step_fits}
use Rattle.call_lists.specs.Laws.Ranged.{Formed, fresh_formed}
use Rattle.call_lists.specs.Laws.Kept.{step_kept}
use Rattle.places.specs.Forms.{Store, Form, words, least}
use Rattle.places.specs.Places.{Lawful}
use Rattle.places.proofs.Lawful.{words_lawful}
use Rattle.plan.specs.declared.State.{State}
use Rattle.plan.specs.View.{view_in, fresh_state, fresh_view}
use Rattle.refine.specs.Promise.{Result, half_of, LentIn, spare}
use Rattle.refine.specs.Serving.{Kept, result_exists}
use Rattle.refine.specs.Front.{view_front}
use Rattle.own_calls.specs.Calls.{Serves}
use Rattle.claims.specs.Demand3 as demand
use Rattle.claims.specs.Demand3.{Got, Trace, stop, call, one, got}
use Rattle.claims.specs.Service as service
use Rattle.claims.specs.Service.{World, start, gave, Counted, counted_lent, form_shows}

-- each call c is lent the first `lend c` of the store's numbers, which are no more than there are
abbrev pub AllLent : (lend : Call → ℕ) (size : ℕ) → List Call → Type 0
AllLent lend size [] = Unit {0}
AllLent lend size (c ∷ cs) = (lend c ≤ size) × AllLent lend size cs

module _ (F : Form) (Lent : Call → ℕ → Type 0) where
  abbrev pub WorldIn : Type 0
  WorldIn = demand.World State (view_in F) half_of (spare F) Lent

  -- a trace of the calls, whatever they give
  pub record Traced (w : WorldIn) (cs : List Call) : Type 0 where
    pub given : List Got
    pub ends : WorldIn
    pub trace : Trace State (view_in F) half_of (spare F) Lent w cs given ends

  -- a world with three plans that shows a model in its ranges whose numbers fit
  record Ready (w : WorldIn) : Type 0 where
    three : length w.state.plans ≡ length kinds
    formed : Formed (view_in F w.state w.store)
    fits : ModelFits (view_in F w.state w.store)

module _ (F : Form) (lawful : Lawful F) (Lent : Call → ℕ → Type 0) (counts : (c : Call) (n : ℕ) → Lent c n → LentIn F c n)
    (lend : Call → ℕ) (lends : (c : Call) → Lent c (lend c)) where
  traced : (w : WorldIn F Lent) (cs : List Call) → Ready F Lent w → CallsFit cs → AllLent lend (length w.store) cs → Traced F Lent w cs
  traced w [] ready fit lent = record { given = []; ends = w; trace = stop w }
  traced w (c ∷ cs) ready fit lent =
      let shown = view_in F w.state w.store in
      let front = take (lend c) w.store in
      let rest = drop (lend c) w.store in
      let buffer : Bytes = replicate (buffer_lent c) 0 in
      let split : front ++ rest ≡ w.store = take-append-drop (lend c) w.store in
      let size : Lent c (length front) = subst (Lent c) (sym (length-take-le (lend c) w.store lent.0)) (lends c) in
      let same : view_in F w.state (front ++ rest) ≡ shown = ap (view_in F w.state) split in
      let fits : in_range (view_in F w.state front) ≡ true → least F ≤ length front → ModelFits (view_in F w.state front) =
      λ ranged long. subst ModelFits (sym same ∙ view_front F lawful w.state front rest long ranged) ready.fits in
      let kept : Kept F lawful c w.state front buffer = result_exists F lawful c w.state front buffer ready.three (counts c (length front) size) fit.0 fits in
      let z : WorldIn F Lent = record { state = kept.result.state; store = kept.store ++ rest } in
      let stepped = one State (view_in F) half_of (spare F) Lent fresh_state (form_shows F lawful Lent counts) shown c w.state front kept.store rest buffer kept.buffer
      kept.result ready.formed same size kept.serves in
      let after : view_in F z.state z.store ≡ (step shown c).model = stepped.after in
      let long : length z.store ≡ length w.store =
      length-append kept.store rest ∙ ap (λ (n : ℕ). n + length rest) kept.serves.long ∙ sym (length-append front rest) ∙ ap length split in
      let more = traced z cs
      (record {
        three = kept.three;
        formed = subst Formed (sym after) (step_kept shown c ready.formed);
        fits = subst ModelFits (sym after) (step_fits shown c ready.fits fit.0);
      })
      fit.1 (subst (λ (n : ℕ). AllLent lend n cs) (sym long) lent.1) in
      record {
        given = got State (view_in F) half_of (spare F) Lent kept.result kept.buffer ∷ more.given;
        ends = more.ends;
        trace =
            call w c front kept.store rest buffer kept.buffer kept.result cs more.given more.ends (sym split) size
            (length-replicate (buffer_lent c) 0) kept.serves more.trace;
      }

  pub form_trace_exists :
      (home : Bool) (s : Store) (cs : List Call) → CallsFit cs → AllLent lend (length s) cs → Traced F Lent (record { state = fresh_state home; store = s }) cs
  form_trace_exists home s cs fit lent =
      traced (record { state = fresh_state home; store = s }) cs
      (record { three = refl; formed = subst Formed (sym (fresh_view F home s)) (fresh_formed home); fits = subst ModelFits (sym (fresh_view F home s)) (fresh_fits home) }) fit lent

-- ---- the service: each call is lent as many words as it says

pub trace_exists : (home : Bool) (s : Store) (cs : List Call) → CallsFit cs → AllLent store_lent (length s) cs → Traced words Counted (start home s) cs
trace_exists = form_trace_exists words words_lawful Counted counted_lent store_lent (λ c. refl)

-- The step of a trace is the contract of the service's calls.
pub contract_steps :
    (w : World) (c : Call) (lent lent' rest : Store) (b b' : Bytes) (r : Result State) → w.store ≡ lent ++ rest → length lent ≡ store_lent c → length b ≡ buffer_lent c
    → Serves c w.state lent lent' b b' r → service.Trace w (c ∷ []) (gave r b' ∷ []) (record { state = r.state; store = lent' ++ rest })
contract_steps w c lent lent' rest b b' r store size buffer serves =
    call w c lent lent' rest b b' r [] [] (record { state = r.state; store = lent' ++ rest }) store size buffer serves (stop (record { state = r.state; store = lent' ++ rest }))
