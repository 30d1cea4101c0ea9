-- Demand 3 of the service's own state, store and calls. What the proof asks of a view holds in every form of store.
use Rattle.std.specs.Prelude.{ℕ, ◌≡◌, List, Bool, ltb}
use Rattle.std.proofs.Common.{sym, ap, ◌∙◌}
use Rattle.rules.specs.Limits.{store_words}
use Rattle.rules.specs.Payload.{Bytes}
use Rattle.rules.specs.Model.{Model}
use Rattle.rules.specs.Calls.{Call, store_lent}
use Rattle.places.specs.Forms.{Store, Form, words, least}
use Rattle.places.specs.Places.{Lawful}
use Rattle.places.proofs.Lawful.{words_lawful}
use Rattle.plan.specs.declared.State.{State}
use Rattle.plan.specs.View.{view_in, view, fresh_state, fresh_view}
use Rattle.ranges.specs.Ranges.{ranged_view}
use Rattle.refine.specs.Promise.{Result, half_of, LentIn, spare}
use Rattle.refine.specs.Front.{view_front}
use Rattle.claims.specs.Demand3 as demand
use Rattle.claims.specs.Demand3.{Got, Demand, Shows, demand3}

-- a view over a form of store, each call lent so many numbers that they are too few exactly where the rules say so
pub form_shows :
    (F : Form) → Lawful F → (Lent : Call → ℕ → Type 0) → ((c : Call) (n : ℕ) → Lent c n → LentIn F c n) → Shows State (view_in F) half_of (spare F) Lent fresh_state
form_shows F lawful Lent counts =
    record {
      starts = fresh_view F;
      ranges = λ st s s'. ranged_view F st s ∙ sym (ranged_view F st s');
      least = least F;
      counts = counts;
      front = view_front F lawful;
    }

-- ---- the service

-- the rules count the store's words
abbrev pub Counted : Call → ℕ → Type 0
Counted c n = n ≡ store_lent c

pub counted_lent : (c : Call) (n : ℕ) → Counted c n → LentIn words c n
counted_lent c n e = ap (λ (i : ℕ). ltb i store_words) e

-- a state with its store
abbrev pub World : Type 0
World = demand.World State view half_of (spare words) Counted

-- a fresh start with a setting, over a store
abbrev pub start : (home : Bool) → Store → World
start home s = record { state = fresh_state home; store = s }

-- what state and store show
abbrev pub shows : World → Model
shows w = view w.state w.store

-- a list of calls of the service, with what they gave
abbrev pub Trace : World → List Call → List Got → World → Type 0
Trace = demand.Trace State view half_of (spare words) Counted

-- what a call with this result gave
abbrev pub gave : Result State → (buffer : Bytes) → Got
gave = demand.got State view half_of (spare words) Counted

pub service_shows : Shows State view half_of (spare words) Counted fresh_state
service_shows = form_shows words words_lawful Counted counted_lent

-- Demand 3: over every list of calls from a fresh start, with either setting and a store of any length.
pub demand_3 : Demand State view half_of (spare words) Counted fresh_state
demand_3 = demand3 State view half_of (spare words) Counted fresh_state service_shows
