-- Where every item stands as the service stores it, with the number and the kind of its place, the move changes nothing that is shown but that uploads end.
use Prim.Native.Nat.{ℕ, zero, suc, ◌^◌, ◌≤◌, ◌<◌}
use Rattle.std.proofs.Common.{arith, ◌∙◌}
use Rattle.std.specs.Prelude.{◌≡◌, Bool}
use Rattle.std.proofs.Math.Path.{refl, ap, ap₂}
use mathlib.Core.List.{List, [], ◌∷◌, ◌++◌, map}
use Rattle.rules.specs.Limits.{flight, fence, rally, kinds, size_of, item_words, byte_values}
use Rattle.rules.specs.Payload.{Bytes}
use Rattle.rules.specs.Model.{idle}
use Rattle.rule_laws.specs.Words.{words_again}
use Rattle.places.specs.Part.{part}
use Rattle.places.specs.Forms.{Store, words, offset_of, item_at, items_in, length_items}
use Rattle.places.specs.Places.{sizes_short}
use Rattle.plan.specs.declared.State.{State}
use Rattle.plan.specs.View.{plan_of, view_in, view}
use Rattle.moves.specs.Moves.{placed, placed_from, moved}
use Rattle.moves.specs.Moving.{placed_more}

module _ (s : Store) (half : Bool) (kind : ℕ) (known : kind < byte_values) where
  item_same : (n : ℕ) → n < byte_values ^ 2 → placed kind n (item_at words s half kind n) ≡ item_at words s half kind n
  unfolding item_at
  item_same n short = words_again (part s (offset_of words half kind n) item_words) kind n known short

  items_same : (n : ℕ) → n ≤ byte_values ^ 2 → placed_from kind 0 (items_in words s half kind n) ≡ items_in words s half kind n
  unfolding items_in
  items_same zero within = refl
  items_same (suc n) within =
      let items = items_in words s half kind n in
      let b = item_at words s half kind n in
      placed_more kind 0 items b
      ∙ ap (λ (k : ℕ). placed_from kind 0 items ++ (placed kind k b ∷ [])) (omega (arith, length_items words s half kind n))
      ∙ ap₂ (λ (l : List Bytes) (i : Bytes). l ++ (i ∷ [])) (items_same n (omega arith)) (item_same n (omega arith))

module _ (st : State) (s : Store) (within : (kind : ℕ) → kind ≤ rally → (plan_of st kind).len ≤ size_of kind) where
  plan_same : (kind : ℕ) → kind ≤ rally
      → placed_from kind 0 (items_in words s (plan_of st kind).half kind (plan_of st kind).len) ≡ items_in words s (plan_of st kind).half kind (plan_of st kind).len
  plan_same kind known = items_same s (plan_of st kind).half kind (omega arith) (plan_of st kind).len (omega (arith, within kind known, sizes_short kind))

  pub moved_same : moved (view st s) ≡ record { shown = (view st s).shown; uploads = map (λ (kind : ℕ). idle) kinds }
  unfolding view_in moved
  moved_same = rw (plan_same flight (omega arith), plan_same fence (omega arith), plan_same rally (omega arith))
