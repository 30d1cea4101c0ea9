-- What is asked of a form of store, shown of bytes here and of words in proofs/Lawful.antt, and the laws of places that follow, for every such form: a place is in the store, and is the place of no
-- other item.
use Rattle.std.specs.Prelude.{◌≡◌, refl, Bool, ℕ, zero, suc, ◌+◌, ◌*◌, ◌^◌, ◌≤◌, ◌<◌, length}
use Rattle.std.proofs.Common.{ap, arith}
use Rattle.std.proofs.Math.Bool.{true, false}
use Rattle.std.proofs.Math.Decide.{dec_lt}
use Rattle.std.proofs.Math.Nat.{mul-le-mul_right}
use Rattle.rules.specs.Limits.{rally, size_of, first_place_of, half_places, byte_values}
use Rattle.rules.specs.Messages.{Item, item_of}
use Rattle.rule_laws.specs.Layout.{length_item_of}
use Rattle.places.specs.Forms.{Form, bytes, least, place_of, offset_of}

pub record Lawful (F : Form) : Type 0 where
  -- an item takes as many numbers as the form says, and at its own place they are the stored item
  pub wide : (item : Item) → length (F.keeps item) ≡ F.width
  pub kept : (item : Item) → F.stored (F.keeps item) item.kind item.seq ≡ item_of item
  -- a kind's places are in the half, and before those of the kinds after it
  pub within : (kind : ℕ) → kind ≤ rally → F.first kind + size_of kind ≤ F.places
  pub ordered : (kind later : ℕ) → kind < later → later ≤ rally → F.first kind + size_of kind ≤ F.first later

-- ---- the tables of places and sizes

pub first_within : (kind : ℕ) → kind ≤ rally → first_place_of kind + size_of kind ≤ half_places
first_within zero known = omega arith
first_within (suc zero) known = omega arith
first_within (suc (suc zero)) known = omega arith
first_within (suc (suc (suc kind))) known = absurd (omega arith)

pub first_before_lem : (kind later : ℕ) → kind < later → later ≤ rally → first_place_of kind + size_of kind ≤ first_place_of later
first_before_lem zero zero less known = absurd (omega arith)
first_before_lem zero (suc zero) less known = omega arith
first_before_lem zero (suc (suc zero)) less known = omega arith
first_before_lem zero (suc (suc (suc later))) less known = absurd (omega arith)
first_before_lem (suc zero) zero less known = absurd (omega arith)
first_before_lem (suc zero) (suc zero) less known = absurd (omega arith)
first_before_lem (suc zero) (suc (suc zero)) less known = omega arith
first_before_lem (suc zero) (suc (suc (suc later))) less known = absurd (omega arith)
first_before_lem (suc (suc kind)) later less known = absurd (omega arith)

-- every number of an item is one of two bytes
pub sizes_short : (kind : ℕ) → size_of kind ≤ byte_values ^ 2
sizes_short zero = omega arith
sizes_short (suc zero) = omega arith
sizes_short (suc (suc zero)) = omega arith
sizes_short (suc (suc (suc kind))) = omega arith

pub bytes_lawful : Lawful bytes
bytes_lawful = record { wide = length_item_of; kept = λ item. refl; within = first_within; ordered = first_before_lem }

pub offset_next : (F : Form) (half : Bool) (kind n : ℕ) → offset_of F half kind (n + 1) ≡ offset_of F half kind n + F.width
unfolding offset_of place_of
offset_next F half kind n = omega arith

pub offset_upto : (F : Form) (half : Bool) (kind n m : ℕ) → n ≤ m → offset_of F half kind n ≤ offset_of F half kind m
unfolding offset_of place_of
offset_upto F half kind n m upto = mul-le-mul_right F.width (omega arith)

module _ (F : Form) (lawful : Lawful F) where
  place_within : (half : Bool) (kind n : ℕ) → kind ≤ rally → n < size_of kind → place_of F half kind n + 1 ≤ 2 * F.places
  unfolding place_of
  place_within true kind n known below = omega (arith, lawful.within kind known)
  place_within false kind n known below = omega (arith, lawful.within kind known)

  pub offset_within : (half : Bool) (kind n : ℕ) → kind ≤ rally → n < size_of kind → offset_of F half kind n + F.width ≤ least F
  unfolding offset_of
  offset_within half kind n known below =
      let h : (place_of F half kind n + 1) * F.width ≤ 2 * F.places * F.width = mul-le-mul_right F.width (place_within half kind n known below) in
      omega (arith, h)

  -- ranges that overlap are of one kind
  kind_same : (kind other n m : ℕ) → kind ≤ rally → other ≤ rally → n < size_of kind → m < size_of other → F.first kind + n ≡ F.first other + m → kind ≡ other
  kind_same kind other n m known known' below below' same = go (dec_lt kind other) (dec_lt other kind)
    where
      go : Dec (kind < other) → Dec (other < kind) → kind ≡ other
      go (yes less) d = absurd (omega (arith, lawful.ordered kind other less known'))
      go (no more) (yes less) = absurd (omega (arith, lawful.ordered other kind less known))
      go (no more) (no less) = omega arith

  -- what an item place tells
  pub record SamePlace (half : Bool) (kind n : ℕ) (half' : Bool) (kind' n' : ℕ) : Type 0 where
    pub same_half : half ≡ half'
    pub same_kind : kind ≡ kind'
    pub same_number : n ≡ n'

  in_half : (kind kind' n n' : ℕ) → kind ≤ rally → kind' ≤ rally → n < size_of kind → n' < size_of kind' → F.first kind + n ≡ F.first kind' + n'
      → (kind ≡ kind') × (n ≡ n')
  in_half kind kind' n n' known known' below below' same =
      let e : kind ≡ kind' = kind_same kind kind' n n' known known' below below' same in
      (e, omega (arith, ap F.first e))

  pub place_injective : (half : Bool) (kind n : ℕ) (half' : Bool) (kind' n' : ℕ) → kind ≤ rally → kind' ≤ rally → n < size_of kind → n' < size_of kind'
      → place_of F half kind n ≡ place_of F half' kind' n' → SamePlace half kind n half' kind' n'
  unfolding place_of
  place_injective true kind n true kind' n' known known' below below' same =
      let e : (kind ≡ kind') × (n ≡ n') = in_half kind kind' n n' known known' below below' (omega arith) in
      record { same_half = refl; same_kind = e.0; same_number = e.1 }
  place_injective false kind n false kind' n' known known' below below' same =
      let e : (kind ≡ kind') × (n ≡ n') = in_half kind kind' n n' known known' below below' (omega arith) in
      record { same_half = refl; same_kind = e.0; same_number = e.1 }
  place_injective true kind n false kind' n' known known' below below' same = absurd (omega (arith, lawful.within kind' known'))
  place_injective false kind n true kind' n' known known' below below' same = absurd (omega (arith, lawful.within kind known))
