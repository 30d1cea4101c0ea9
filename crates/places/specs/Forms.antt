-- The forms of a store: how many of its numbers an item takes and which stored item they are, and where the items of a kind stand in either half. The store of
-- the service is one of words (M-106); that from which plans are moved into it is one of bytes.
use Rattle.std.specs.Prelude.{◌≡◌, Bool, cond, length, get_or}
use Rattle.std.proofs.Math.Path.{refl, ap}
use Rattle.std.proofs.Common.{◌∙◌, sym, arith, not-suc-le-zero}
use mathlib.Core.List.{List, [], ◌∷◌, ◌++◌}
use Prim.Native.Nat.{ℕ, zero, suc, ◌+◌, ◌*◌, ◌<◌}
use Rattle.std.proofs.Math.Decide.{dec_lt}
use Rattle.std.proofs.Math.Numerals.{add-one}
use Rattle.std.proofs.Math.ListN.{length-append, get_or-append}
use Rattle.std.proofs.lemmas.List.{get_or_at}
use Rattle.rules.specs.Limits.{half_places, first_place_of, item_bytes, item_words}
use Rattle.rules.specs.Payload.{Bytes}
use Rattle.rules.specs.Messages.{Item, item_of}
use Rattle.rules.specs.Words.{words_of, item_of_words}
use Rattle.places.specs.Part.{part}

-- a store's numbers
abbrev pub Store : Type 0
Store = List ℕ

pub record Form : Type 0 where
  -- how many of the store's numbers an item takes
  pub width : ℕ
  -- the numbers that an item is kept as
  pub keeps : Item → List ℕ
  -- the stored item, all 38 bytes, that numbers are as number n of a kind
  pub stored : List ℕ → (kind n : ℕ) → Bytes
  -- the item places of a half, and the place at which a kind begins in it
  pub places : ℕ
  pub first : ℕ → ℕ

-- "Keep each item as eight words"; "Seq and kind follow from the place; a stored item's other fields are 0"
abbrev pub words : Form
words =
    record {
      width = item_words;
      keeps = words_of;
      stored = λ w kind n. item_of (item_of_words w kind n);
      places = half_places;
      first = first_place_of;
    }

-- "A stored item is payload 73, all 38 bytes": document 01's store
abbrev pub bytes : Form
bytes =
    record {
      width = item_bytes;
      keeps = item_of;
      stored = λ b kind n. b;
      places = half_places;
      first = first_place_of;
    }

module _ (F : Form) where
  -- how long a store is at least: of words "2 x 352 x 8", of bytes "2 x 352 x 38"
  abbrev pub least : ℕ
  least = 2 * F.places * F.width

  -- the item place of number n of a kind, in the first half or, where `half` is true, in the second
  unfoldable pub place_of : (half : Bool) (kind n : ℕ) → ℕ
  place_of half kind n = cond half F.places 0 + F.first kind + n

  -- the store's number at which it begins
  unfoldable pub offset_of : (half : Bool) (kind n : ℕ) → ℕ
  offset_of half kind n = place_of half kind n * F.width

  -- the stored item there
  unfoldable pub item_at : Store → (half : Bool) (kind n : ℕ) → Bytes
  item_at store half kind n = F.stored (part store (offset_of half kind n) F.width) kind n

  -- the first n items of a kind in a half
  unfoldable pub items_in : Store → (half : Bool) (kind n : ℕ) → List Bytes
  items_in store half kind zero = []
  items_in store half kind (suc n) = items_in store half kind n ++ (item_at store half kind n ∷ [])

  pub length_items : (store : Store) (half : Bool) (kind n : ℕ) → length (items_in store half kind n) ≡ n
  unfolding items_in
  length_items store half kind zero = refl
  length_items store half kind (suc n) =
      length-append (items_in store half kind n) (item_at store half kind n ∷ [])
      ∙ ap (λ (k : ℕ). k + 1) (length_items store half kind n)
      ∙ add-one n

  -- the items in order
  pub items_at : (store : Store) (half : Bool) (kind n i : ℕ) → i < n → get_or (items_in store half kind n) i [] ≡ item_at store half kind i
  unfolding items_in
  items_at store half kind zero i below = absurd (not-suc-le-zero below)
  items_at store half kind (suc n) i below = go (dec_lt i n) (items_at store half kind n i)
    where
      front : List Bytes
      front = items_in store half kind n

      go : Dec (i < n) → (i < n → get_or front i [] ≡ item_at store half kind i)
          → get_or (front ++ (item_at store half kind n ∷ [])) i [] ≡ item_at store half kind i
      go (yes lower) rest = get_or-append front (item_at store half kind n ∷ []) [] i (omega (arith, length_items store half kind n)) ∙ rest lower
      go (no last) rest =
          let same : i ≡ n = omega arith in
          get_or_at front (item_at store half kind n) [] [] i (length_items store half kind n ∙ sym same) ∙ ap (item_at store half kind) (sym same)
