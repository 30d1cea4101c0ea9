-- Answers as before, M-106: "Show that every call answers as it did over bytes, for every sequence of the same calls from a fresh start with long enough stores that
-- nobody else writes".
use Rattle.std.specs.Prelude.{ℕ, ◌≤◌, ◌≡◌, refl, List, [], ◌∷◌, Bool, true, false, cond, length, ltb}
use Rattle.std.proofs.Common.{sym, ◌∙◌, arith}
use Rattle.rules.specs.Limits.{store_words}
use Rattle.rules.specs.Model.{Model}
use Rattle.rules.specs.Calls.{Call, store_lent}
use Rattle.rule_laws.specs.Fitting.{CallsFit}
use Rattle.places.specs.Forms.{Store, bytes, least}
use Rattle.places.specs.Places.{bytes_lawful}
use Rattle.plan.specs.declared.State.{State}
use Rattle.plan.specs.View.{view_in, fresh_state}
use Rattle.refine.specs.Promise.{half_of, LentIn, spare}
use Rattle.claims.specs.Demand3 as demand
use Rattle.claims.specs.Demand3.{Got, Demand, demand3}
use Rattle.claims.specs.Service.{World, start, shows, Trace, demand_3, form_shows}
use Rattle.claims.specs.Existence.{AllLent, Traced, form_trace_exists}

-- ---- a service that keeps the promise over bytes: each call is lent so many of them that they are too few exactly where its words are

abbrev pub ByteWorld : Type 0
ByteWorld = demand.World State (view_in bytes) half_of (spare bytes) (LentIn bytes)

abbrev pub byte_start : (home : Bool) → Store → ByteWorld
byte_start home t = record { state = fresh_state home; store = t }

abbrev pub byte_shows : ByteWorld → Model
byte_shows z = view_in bytes z.state z.store

abbrev pub ByteTrace : ByteWorld → List Call → List Got → ByteWorld → Type 0
ByteTrace = demand.Trace State (view_in bytes) half_of (spare bytes) (LentIn bytes)

-- Demand 3 of it
pub demand_3_bytes : Demand State (view_in bytes) half_of (spare bytes) (LentIn bytes) fresh_state
demand_3_bytes = demand3 State (view_in bytes) half_of (spare bytes) (LentIn bytes) fresh_state (form_shows bytes bytes_lawful (LentIn bytes) (λ c n e. e))

-- The same calls, over words and over bytes, each from a fresh start with the same setting: every outcome, id, length, reply byte and command is the same, and so is what is shown.
pub answers_as_over_bytes :
    (home : Bool) (s t : Store) (cs : List Call) (gs hs : List Got) (w : World) (z : ByteWorld) → Trace (start home s) cs gs w → ByteTrace (byte_start home t) cs hs z
    → (gs ≡ hs) × (shows w ≡ byte_shows z)
answers_as_over_bytes home s t cs gs hs w z over-words over-bytes =
    let a = demand_3 home s cs gs w over-words in
    let b = demand_3_bytes home t cs hs z over-bytes in
    (a.answered ∙ sym b.answered, a.model ∙ sym b.model)

-- ---- there is such a service: every list of calls that fit has a trace over every store of bytes that is long enough

-- enough bytes where a call has enough words, and none where it has not
abbrev lend : Call → ℕ
lend c = cond (ltb (store_lent c) store_words) 0 (least bytes)

lends : (c : Call) → LentIn bytes c (lend c)
lends c = go (ltb (store_lent c) store_words)
  where
    go : (t : Bool) → ltb (cond t 0 (least bytes)) (least bytes) ≡ t
    go true = refl
    go false = refl

lend_within : (c : Call) (size : ℕ) → least bytes ≤ size → lend c ≤ size
lend_within c size long = go (ltb (store_lent c) store_words)
  where
    go : (t : Bool) → cond t 0 (least bytes) ≤ size
    go true = omega arith
    go false = long

all_lent : (size : ℕ) → least bytes ≤ size → (cs : List Call) → AllLent lend size cs
all_lent size long [] = tt
all_lent size long (c ∷ cs) = (lend_within c size long, all_lent size long cs)

pub byte_trace_exists : (home : Bool) (t : Store) (cs : List Call) → CallsFit cs → least bytes ≤ length t → Traced bytes (LentIn bytes) (byte_start home t) cs
byte_trace_exists home t cs fit long = form_trace_exists bytes bytes_lawful (LentIn bytes) (λ c n e. e) lend lends home t cs fit (all_lent (length t) long cs)
