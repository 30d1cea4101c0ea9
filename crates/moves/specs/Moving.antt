-- The store after the items of a plan were moved, as the code moves them, one after the other.
use Prim.Native.Nat.{ℕ, zero, suc, ◌+◌, ◌≤◌, ◌<◌}
use Rattle.std.proofs.Common.{arith, ◌∙◌}
use Rattle.std.specs.Prelude.{◌≡◌, ◌⊎◌, Bool, length, get_or}
use Rattle.std.proofs.Math.Path.{refl, sym, ap}
use mathlib.Core.List.{List, [], ◌∷◌, ◌++◌}
use Rattle.rules.specs.Limits.{flight, fence, rally, size_of}
use Rattle.rules.specs.Payload.{Bytes}
use Rattle.rules.specs.Messages.{item_in}
use Rattle.rules.specs.Words.{words_of}
use Rattle.rule_laws.specs.Words.{length_words_of}
use Rattle.places.specs.Forms.{Store, words, bytes, least, offset_of, item_at, items_in, length_items}
use Rattle.places.proofs.Lawful.{words_lawful}
use Rattle.places.specs.Writes.{put_at, other_kind, Leaves, leaves_same, leaves_both, leaves_wider, put_leaves, items_left, items_more}
use Rattle.plan.specs.declared.State.{State}
use Rattle.plan.specs.declared.Plan.{Plan}
use Rattle.plan.specs.View.{plan_of}
use Rattle.upload.specs.Turns.{ended}
use Rattle.moves.specs.Moves.{placed, placed_from}

-- the store with the first n items of a kind in a half put into their places
unfoldable pub moved_items : (old new : Store) (half : Bool) (kind n : ℕ) → Store
moved_items old new half kind zero = new
moved_items old new half kind (suc n) = put_at words (moved_items old new half kind n) half kind n (words_of (item_in (item_at bytes old half kind n)))

-- the store with the items of the three plans put into theirs
unfoldable pub moved_plans : (old new : Store) (flight fence rally : Plan) → Store
moved_plans old new p q r = moved_items old (moved_items old (moved_items old new p.half flight p.len) q.half fence q.len) r.half rally r.len

pub placed_more : (kind n : ℕ) (items : List Bytes) (b : Bytes) → placed_from kind n (items ++ (b ∷ [])) ≡ placed_from kind n items ++ (placed kind (n + length items) b ∷ [])
placed_more kind n [] b = ap (λ (k : ℕ). placed kind k b ∷ []) (omega arith)
placed_more kind n (a ∷ items) b =
    ap (λ (l : List Bytes). placed kind n a ∷ l)
    (placed_more kind (suc n) items b ∙ ap (λ (k : ℕ). placed_from kind (suc n) items ++ (placed kind k b ∷ [])) (omega arith))

module _ (old new : Store) (long : least words ≤ length new) (half : Bool) (kind : ℕ) (known : kind ≤ rally) where
  -- what is elsewhere stays
  moved_leaves : (n : ℕ) → n ≤ size_of kind → Leaves words half kind 0 n new (moved_items old new half kind n)
  unfolding moved_items
  moved_leaves zero within = leaves_same words half kind 0 0 new
  moved_leaves (suc n) within =
      let so_far = moved_items old new half kind n in
      let rest = moved_leaves n (omega arith) in
      let item = item_in (item_at bytes old half kind n) in
      let put = put_at words so_far half kind n (words_of item) in
      leaves_both words half kind 0 (suc n) new so_far put
      (leaves_wider words half kind 0 n 0 (suc n) new so_far (omega arith) (omega arith) rest)
      (leaves_wider words half kind n (n + 1) 0 (suc n) so_far put (omega arith) (omega arith)
      (put_leaves words words_lawful so_far (omega (arith, rest.long)) (words_of item) (length_words_of item) half kind n known (omega arith)))

  pub moved_length : (n : ℕ) → n ≤ size_of kind → length (moved_items old new half kind n) ≡ length new
  moved_length n within = (moved_leaves n within).long

  -- the items that were moved
  pub moved_items_lem : (n : ℕ) → n ≤ size_of kind → items_in words (moved_items old new half kind n) half kind n ≡ placed_from kind 0 (items_in bytes old half kind n)
  unfolding moved_items items_in
  moved_items_lem zero within = refl
  moved_items_lem (suc n) within =
      let b = item_at bytes old half kind n in
      let item = item_in b in
      items_more words words_lawful (moved_items old new half kind n) (omega (arith, moved_length n (omega arith))) (words_of item) (length_words_of item) half kind n known (omega arith)
      ∙ ap (λ (l : List Bytes). l ++ (placed kind n b ∷ [])) (moved_items_lem n (omega arith))
      ∙ ap (λ (k : ℕ). placed_from kind 0 (items_in bytes old half kind n) ++ (placed kind k b ∷ [])) (omega (arith, length_items bytes old half kind n))
      ∙ sym (placed_more kind 0 (items_in bytes old half kind n) b)

  -- the items of another kind
  pub moved_apart :
      (n : ℕ) → n ≤ size_of kind → (half' : Bool) (kind' m : ℕ) → kind' ≤ rally → m ≤ size_of kind' → (kind' ≡ kind → ⊥)
      → items_in words (moved_items old new half kind n) half' kind' m ≡ items_in words new half' kind' m
  moved_apart n within half' kind' m known' within' other =
      items_left words half kind 0 n new (moved_items old new half kind n) (moved_leaves n within) half' kind' m known' within' (λ i below. other_kind other)

  -- every word outside their places
  pub moved_beside :
      (n : ℕ) → n ≤ size_of kind → (i : ℕ) → (i < offset_of words half kind 0) ⊎ (offset_of words half kind n ≤ i)
      → get_or (moved_items old new half kind n) i 0 ≡ get_or new i 0
  moved_beside n within = (moved_leaves n within).numbers

-- ---- the three plans of a state, each with no more items than its kind's size

-- the state after the move: every upload ended
abbrev pub ended_state : State → State
ended_state st =
    record {
      plans = ended (plan_of st flight) ∷ ended (plan_of st fence) ∷ ended (plan_of st rally) ∷ [];
      current = st.current;
      begun = st.begun;
      home = st.home;
      counts = st.counts;
    }
