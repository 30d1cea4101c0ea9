-- A drone whose plans were stored over bytes, by any list of calls, shows after the move what it showed before it: the same plans, numbers, current item, whether it is
-- begun, jump counts and setting. Its uploads have ended.
use Rattle.std.specs.Prelude.{ℕ, ◌+◌, ◌≤◌, ◌≡◌, List, [], ◌∷◌, map, Bool, true, length, replicate}
use Rattle.std.proofs.Common.{arith, sym, ap, subst, ◌∙◌, le-leb}
use Rattle.std.proofs.lemmas.List.{length-replicate}
use Rattle.rules.specs.Limits.{rally, kinds, no_reply}
use Rattle.rules.specs.Model.{Model, idle, in_range}
use Rattle.rules.specs.Calls.{Call, store_lent}
use Rattle.rule_laws.specs.Fitting.{CallsFit}
use Rattle.places.specs.Forms.{Store, words}
use Rattle.places.proofs.Lawful.{words_lawful}
use Rattle.plan.specs.declared.State.{State}
use Rattle.plan.specs.View.{view}
use Rattle.refine.specs.Items.{len_ranged}
use Rattle.moves.specs.Moves.{MovesToWords, moved}
use Rattle.moves.specs.Outcome.{movable}
use Rattle.moves.proofs.Same.{moved_same}
use Rattle.claims.specs.Demand3.{Got}
use Rattle.claims.specs.Service.{World, shows}
use Rattle.claims.specs.Existence.{AllLent, trace_exists}
use Rattle.claims.specs.OverBytes.{ByteWorld, byte_start, byte_shows, ByteTrace, answers_as_over_bytes}

-- the words that the calls are lent, together
total : List Call → ℕ
total [] = 0
total (c ∷ cs) = store_lent c + total cs

all_lent : (size : ℕ) (cs : List Call) → total cs ≤ size → AllLent store_lent size cs
unfolding total
all_lent size [] long = tt
all_lent size (c ∷ cs) long = (omega arith, all_lent size cs (omega arith))

-- nothing is shown of an upload
abbrev at_rest : Model → Model
at_rest m = record { shown = m.shown; uploads = map (λ (kind : ℕ). idle) kinds }

-- what words show in their ranges
rest_same : (w : World) → in_range (shows w) ≡ true → moved (shows w) ≡ at_rest (shows w)
rest_same w ranged =
    moved_same w.state w.store (λ kind known. len_ranged words words_lawful w.state w.store ranged kind (le-leb kind rally known))

pub shows_as_before :
    (home : Bool) (t : Store) (cs : List Call) (hs : List Got) (z : ByteWorld) → ByteTrace (byte_start home t) cs hs z → CallsFit cs
    → (new : Store) (st' : State) (new' : Store) (outcome : ℕ) → MovesToWords z.state z.store new st' new' outcome → outcome ≡ no_reply
    → view st' new' ≡ record { shown = (byte_shows z).shown; uploads = map (λ (kind : ℕ). idle) kinds }
shows_as_before home t cs hs z over-bytes fit new st' new' outcome moves done =
    let s : Store = replicate (total cs) 0 in
    let lent : AllLent store_lent (length s) cs = subst (λ (n : ℕ). AllLent store_lent n cs) (sym (length-replicate (total cs) 0)) (all_lent (total cs) cs (omega arith)) in
    let over-words = trace_exists home s cs fit lent in
    let w = over-words.ends in
    let same : shows w ≡ byte_shows z = (answers_as_over_bytes home s t cs over-words.given hs w z over-words.trace over-bytes).1 in
    let ranged : in_range (byte_shows z) ≡ true = (movable (in_range (byte_shows z)) (length z.store) (length new) (sym moves.answer ∙ done)).in_range in
    moves.shown done ∙ ap moved (sym same) ∙ rest_same w (ap in_range same ∙ ranged) ∙ ap at_rest same
