-- A write at one item place of a store of a form: it is fetched there, it extends the items before it by one, and all items elsewhere stay. What stays is one
-- relation of the stores before and after, which writes one after the other keep.
use Rattle.std.specs.Prelude.{◌≡◌, Bool, true, false, not, ◌⊎◌, length, get_or}
use Rattle.std.proofs.Math.Path.{refl, ap, ap₂}
use Rattle.std.proofs.Common.{◌∙◌, sym, inl, inr, ⊎_elim, arith}
use mathlib.Core.List.{List, [], ◌∷◌, ◌++◌}
use Prim.Native.Nat.{ℕ, zero, suc, ◌+◌, ◌*◌, ◌≤◌, ◌<◌}
use Rattle.std.proofs.Math.Decide.{dec_lt}
use Rattle.std.proofs.Math.Nat.{mul-le-mul_right}
use Rattle.rules.specs.Limits.{rally, size_of}
use Rattle.rules.specs.Payload.{Bytes}
use Rattle.rules.specs.Messages.{Item, item_of}
use Rattle.places.specs.Part.{part, put, length_put, get_d_put_before, get_d_put_after, part_put_same, part_put_before, part_put_after}
use Rattle.places.specs.Forms.{Store, Form, least, place_of, offset_of, item_at, items_in}
use Rattle.places.specs.Places.{Lawful, offset_next, offset_upto, offset_within, SamePlace, place_injective}

-- a store with other numbers in one item place
abbrev pub put_at : Form → Store → (half : Bool) (kind n : ℕ) → List ℕ → Store
put_at F store half kind n v = put store (offset_of F half kind n) v

-- number i of a kind and half is not among those from `low` on and below `high` of another: another half, another kind, before or behind them
pub data Elsewhere (half : Bool) (kind low high : ℕ) (half' : Bool) (kind' i : ℕ) : Type 0 where
  other_half : half' ≡ not half → Elsewhere half kind low high half' kind' i
  other_kind : (kind' ≡ kind → ⊥) → Elsewhere half kind low high half' kind' i
  before : i < low → Elsewhere half kind low high half' kind' i
  behind : high ≤ i → Elsewhere half kind low high half' kind' i

-- writes at the places from `low` on and below `high` of a kind and half leave every item elsewhere, every other number, and the length
pub record Leaves (F : Form) (half : Bool) (kind low high : ℕ) (s s' : Store) : Type 0 where
  pub items : (half' : Bool) (kind' i : ℕ) → kind' ≤ rally → i < size_of kind' → Elsewhere half kind low high half' kind' i → item_at F s' half' kind' i ≡ item_at F s half' kind' i
  pub numbers : (i : ℕ) → (i < offset_of F half kind low) ⊎ (offset_of F half kind high ≤ i) → get_or s' i 0 ≡ get_or s i 0
  pub long : length s' ≡ length s

module _ (F : Form) (half : Bool) (kind : ℕ) where
  pub leaves_same : (low high : ℕ) (s : Store) → Leaves F half kind low high s s
  leaves_same low high s = record { items = λ half' kind' i known below away. refl; numbers = λ i beside. refl; long = refl }

  -- one write after the other, among wider places
  pub leaves_both : (low high : ℕ) (s s' s'' : Store) → Leaves F half kind low high s s' → Leaves F half kind low high s' s'' → Leaves F half kind low high s s''
  leaves_both low high s s' s'' a b =
      record {
        items = λ half' kind' i known below away. b.items half' kind' i known below away ∙ a.items half' kind' i known below away;
        numbers = λ i beside. b.numbers i beside ∙ a.numbers i beside;
        long = b.long ∙ a.long;
      }

  pub leaves_wider : (low high low' high' : ℕ) (s s' : Store) → low' ≤ low → high ≤ high' → Leaves F half kind low high s s' → Leaves F half kind low' high' s s'
  leaves_wider low high low' high' s s' lower higher a =
      record { items = λ half' kind' i known below away. a.items half' kind' i known below (narrow half' kind' i away); numbers = λ i beside. a.numbers i (outside i beside); long = a.long }
    where
      narrow : (half' : Bool) (kind' i : ℕ) → Elsewhere half kind low' high' half' kind' i → Elsewhere half kind low high half' kind' i
      narrow half' kind' i (other_half e) = other_half e
      narrow half' kind' i (other_kind e) = other_kind e
      narrow half' kind' i (before e) = before (omega arith)
      narrow half' kind' i (behind e) = behind (omega arith)

      outside : (i : ℕ) → (i < offset_of F half kind low') ⊎ (offset_of F half kind high' ≤ i) → (i < offset_of F half kind low) ⊎ (offset_of F half kind high ≤ i)
      outside i (inl e) = inl (omega (arith, offset_upto F half kind low' low lower))
      outside i (inr e) = inr (omega (arith, offset_upto F half kind high high' higher))

  -- of items that stand elsewhere, all
  pub items_left : (low high : ℕ) (s s' : Store) → Leaves F half kind low high s s' → (half' : Bool) (kind' m : ℕ) → kind' ≤ rally → m ≤ size_of kind'
      → ((i : ℕ) → i < m → Elsewhere half kind low high half' kind' i) → items_in F s' half' kind' m ≡ items_in F s half' kind' m
  unfolding items_in
  items_left low high s s' a half' kind' zero known within away = refl
  items_left low high s s' a half' kind' (suc m) known within away =
      ap₂ (λ (l : List Bytes) (b : Bytes). l ++ (b ∷ [])) (items_left low high s s' a half' kind' m known (omega arith) (λ i lower. away i (omega arith)))
      (a.items half' kind' m known (omega arith) (away m (omega arith)))

not_own : (b : Bool) → b ≡ not b → ⊥
not_own true e = absurd (let z : ◌≡◌ {A = ℕ} 0 1 = cc in omega arith)
not_own false e = absurd (let z : ◌≡◌ {A = ℕ} 0 1 = cc in omega arith)

module _ (F : Form) (lawful : Lawful F) (store : Store) (long : least F ≤ length store) (v : List ℕ) (wide : length v ≡ F.width)
    (half : Bool) (kind n : ℕ) (known : kind ≤ rally) (below : n < size_of kind) where
  fits : offset_of F half kind n + length v ≤ length store
  fits = omega (arith, offset_within F lawful half kind n known below)

  pub length_stays : length (put_at F store half kind n v) ≡ length store
  length_stays = length_put store (offset_of F half kind n) v fits

  pub item_fetched : item_at F (put_at F store half kind n v) half kind n ≡ F.stored v kind n
  unfolding item_at
  item_fetched =
      ap (λ (l : List ℕ). F.stored l kind n)
      (ap (part (put_at F store half kind n v) (offset_of F half kind n)) (sym wide) ∙ part_put_same store (offset_of F half kind n) v fits)

  item_kept : (half' : Bool) (kind' i : ℕ) → (place_of F half' kind' i ≡ place_of F half kind n → ⊥) → item_at F (put_at F store half kind n v) half' kind' i ≡ item_at F store half' kind' i
  unfolding item_at offset_of
  item_kept half' kind' i other = ap (λ (l : List ℕ). F.stored l kind' i) (go (dec_lt (place_of F half' kind' i) (place_of F half kind n)))
    where
      go : Dec (place_of F half' kind' i < place_of F half kind n)
          → part (put_at F store half kind n v) (offset_of F half' kind' i) F.width ≡ part store (offset_of F half' kind' i) F.width
      go (yes lower) =
          let h : (place_of F half' kind' i + 1) * F.width ≤ place_of F half kind n * F.width = mul-le-mul_right F.width (omega arith) in
          part_put_before store (offset_of F half kind n) v fits (offset_of F half' kind' i) F.width (omega (arith, h))
      go (no higher) =
          let h : (place_of F half kind n + 1) * F.width ≤ place_of F half' kind' i * F.width = mul-le-mul_right F.width (omega (arith, other)) in
          part_put_after store (offset_of F half kind n) v fits (offset_of F half' kind' i) F.width (omega (arith, h))

  -- a write leaves what is elsewhere
  pub put_leaves : Leaves F half kind n (n + 1) store (put_at F store half kind n v)
  put_leaves =
      record {
        items = λ half' kind' i known' within away. item_kept half' kind' i (λ same. differ half' kind' i away (place_injective F lawful half' kind' i half kind n known' known within below same));
        numbers = λ i beside.
            ⊎_elim (λ (lower : i < offset_of F half kind n). get_d_put_before store (offset_of F half kind n) v fits i lower)
            (λ (upper : offset_of F half kind (n + 1) ≤ i). get_d_put_after store (offset_of F half kind n) v fits i (omega (arith, offset_next F half kind n)))
            beside;
        long = length_stays;
      }
    where
      differ : (half' : Bool) (kind' i : ℕ) → Elsewhere half kind n (n + 1) half' kind' i → SamePlace F lawful half' kind' i half kind n → ⊥
      differ half' kind' i (other_half e) s = not_own half (sym s.same_half ∙ e)
      differ half' kind' i (other_kind e) s = e s.same_kind
      differ half' kind' i (before e) s = omega (arith, s.same_number)
      differ half' kind' i (behind e) s = omega (arith, s.same_number)

  -- a write at the place after n items makes them n + 1
  pub items_more : items_in F (put_at F store half kind n v) half kind (suc n) ≡ items_in F store half kind n ++ (F.stored v kind n ∷ [])
  unfolding items_in
  items_more =
      ap (λ (l : List Bytes). l ++ (item_at F (put_at F store half kind n v) half kind n ∷ [])) (items_left F half kind n (n + 1) store (put_at F store half kind n v) put_leaves half kind n known (omega arith) (λ i lower. before lower))
      ∙ ap (λ (b : Bytes). items_in F store half kind n ++ (b ∷ [])) item_fetched

-- an item kept as number n of a kind, where it says that it is that, is the stored item
pub stored_item : (F : Form) → Lawful F → (item : Item) (kind n : ℕ) → item.kind ≡ kind → item.seq ≡ n → F.stored (F.keeps item) kind n ≡ item_of item
stored_item F lawful item kind n of_kind numbered = ap₂ (F.stored (F.keeps item)) (sym of_kind) (sym numbered) ∙ lawful.kept item
