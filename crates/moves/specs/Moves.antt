-- What the move from bytes to words gives, for every state and every two stores. M-106: "a one-time move of the three plans (these eight words only) from the old store
-- to the new; running uploads end. It answers 14 if either store is too short, then 15, changing nothing, else 1."
use Rattle.std.specs.Prelude.{ℕ, suc, ◌≤◌, ◌≡◌, List, [], ◌∷◌, map, Bool, false, cond, ◌&&◌, ◌||◌, length, get_or, leb, ltb, Result, Ok, Err}
use Rattle.rules.specs.Limits.{flight, fence, rally, kinds, no_reply, short_store, out_of_range}
use Rattle.rules.specs.Payload.{Bytes}
use Rattle.rules.specs.Messages.{item_of, item_in}
use Rattle.rules.specs.Words.{words_of, item_of_words}
use Rattle.rules.specs.Model.{idle, Model, plan_of, in_range}
use Rattle.limits.specs.declared.Refusal.{Refusal}
use Rattle.limits.specs.Codes.{refusal_code}
use Rattle.places.specs.Forms.{Store, words, bytes, least, offset_of}
use Rattle.plan.specs.declared.State.{State}
use Rattle.plan.specs.View as plan
use Rattle.plan.specs.View.{view_in, view}

-- "14 if either store is too short, then 15, .. else 1"
abbrev pub outcome_of : (ranged : Bool) (old_length new_length : ℕ) → ℕ
outcome_of ranged old_length new_length =
    cond (ltb old_length (least bytes) || ltb new_length (least words)) short_store (cond ranged no_reply out_of_range)

-- the outcome of a move that was done or refused
abbrev pub move_outcome : Result (Unit {0}) Refusal → ℕ
move_outcome (Ok done) = no_reply
move_outcome (Err r) = refusal_code r

-- "these eight words only": the stored item that the words of a stored item are as number n of a kind
abbrev pub placed : (kind n : ℕ) → Bytes → Bytes
placed kind n b = item_of (item_of_words (words_of (item_in b)) kind n)

-- a list of them, the first as number n
abbrev pub placed_from : (kind n : ℕ) → List Bytes → List Bytes
placed_from kind n [] = []
placed_from kind n (b ∷ bs) = placed kind n b ∷ placed_from kind (suc n) bs

-- the model after the move: the three plans, and no upload
unfoldable pub moved : Model → Model
moved m =
    record {
      shown =
          record {
            plans = map (λ (kind : ℕ). record { items = placed_from kind 0 (plan_of m.shown kind).items; number = (plan_of m.shown kind).number }) kinds;
            current = m.shown.current;
            begun = m.shown.begun;
            counts = m.shown.counts;
            home = m.shown.home;
          };
      uploads = map (λ (kind : ℕ). idle) kinds;
    }

-- word i of the store is one of a plan's items
abbrev pub in_plan : State → (kind i : ℕ) → Bool
in_plan st kind i = let p = plan.plan_of st kind in leb (offset_of words p.half kind 0) i && ltb i (offset_of words p.half kind p.len)

abbrev pub in_plans : State → ℕ → Bool
in_plans st i = in_plan st flight i || in_plan st fence i || in_plan st rally i

-- The move of a state st and its store of bytes `old` to a store of words `new` gives the state st', the store new' and an outcome. Nothing is free. The store of bytes is
-- lent for reading.
pub record MovesToWords (st : State) (old new : Store) (st' : State) (new' : Store) (outcome : ℕ) : Type 0 where
  pub answer : outcome ≡ outcome_of (in_range (view_in bytes st old)) (length old) (length new)
  -- what is shown after it
  pub shown : outcome ≡ no_reply → view st' new' ≡ moved (view_in bytes st old)
  -- each plan keeps its half
  pub halves : (kind : ℕ) → kind ≤ rally → (plan.plan_of st' kind).half ≡ (plan.plan_of st kind).half
  -- "changing nothing"
  pub unchanged : (outcome ≡ no_reply → ⊥) → (st' ≡ st) × (new' ≡ new)
  -- every word outside the places of the moved plans stays
  pub beside : (i : ℕ) → in_plans st i ≡ false → get_or new' i 0 ≡ get_or new i 0
  pub long : length new' ≡ length new
