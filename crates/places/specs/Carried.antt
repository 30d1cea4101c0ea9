-- Items of a kind carried from the half that they stand in to the same numbers' places in the other half; and a part (M-108) that is filled up so: "all others staying bit
-- for bit".
use Rattle.std.specs.Prelude.{◌≡◌, ◌⊎◌, List, [], Bool, true, not, length, get_or, drop}
use Rattle.std.proofs.Common.{◌∙◌, sym, ap, subst, inl, inr, arith, length-drop, get_or-drop, ext_get_or}
use Rattle.std.proofs.Math.Bool.{not-not}
use Prim.Native.Nat.{ℕ, zero, suc, ◌+◌, ◌-◌, ◌≤◌, ◌<◌}
use Rattle.std.proofs.Math.Decide.{dec_lt}
use Rattle.rules.specs.Limits.{rally, size_of}
use Rattle.rules.specs.Payload.{Bytes}
use Rattle.rules.specs.Model.{Task, whole}
use Rattle.rule_laws.specs.Tasks.{TaskRanges}
use Rattle.rule_laws.specs.Whole.{whole_length, whole_inside, whole_outside}
use Rattle.places.specs.Part.{part, length_part_within}
use Rattle.places.specs.Forms.{Store, Form, least, offset_of, item_at, items_in, length_items, items_at}
use Rattle.places.specs.Places.{Lawful, offset_within}
use Rattle.places.specs.Writes.{put_at, other_half, before, behind, Leaves, leaves_same, leaves_both, leaves_wider, put_leaves, item_fetched}

module _ (F : Form) where
  -- number n of a kind
  abbrev pub carried_at : Store → (half : Bool) (kind n : ℕ) → Store
  carried_at s half kind n = put_at F s (not half) kind n (part s (offset_of F half kind n) F.width)

  -- n items from number `low` on
  unfoldable pub carried : Store → (half : Bool) (kind low n : ℕ) → Store
  carried s half kind low zero = s
  carried s half kind low (suc n) = carried_at (carried s half kind low n) half kind (low + n)

  -- all items of a plan that a task does not bring: those before its first, and those behind its last
  unfoldable pub filled : Store → (half : Bool) (kind : ℕ) → Task → Store
  filled s half kind t = carried (carried s half kind 0 t.first) half kind (t.last + 1) (t.count - (t.last + 1))

module _ (F : Form) (lawful : Lawful F) (half : Bool) (kind : ℕ) (known : kind ≤ rally) where
  module _ (s : Store) (long : least F ≤ length s) (n : ℕ) (below : n < size_of kind) where
    item_wide : length (part s (offset_of F half kind n) F.width) ≡ F.width
    item_wide = length_part_within s (offset_of F half kind n) F.width (omega (arith, offset_within F lawful half kind n known below))

    one_leaves : Leaves F (not half) kind n (n + 1) s (carried_at F s half kind n)
    one_leaves = put_leaves F lawful s long (part s (offset_of F half kind n) F.width) item_wide (not half) kind n known below

    one_item : item_at F (carried_at F s half kind n) (not half) kind n ≡ item_at F s half kind n
    unfolding item_at
    one_item = item_fetched F lawful s long (part s (offset_of F half kind n) F.width) item_wide (not half) kind n known below

  own_half : half ≡ not (not half)
  own_half = sym (not-not half)

  module _ (s : Store) (long : least F ≤ length s) (low : ℕ) where
    pub carried_leaves : (n : ℕ) → low + n ≤ size_of kind → Leaves F (not half) kind low (low + n) s (carried F s half kind low n)
    unfolding carried
    carried_leaves zero within = leaves_same F (not half) kind low (low + 0) s
    carried_leaves (suc n) within =
        let so_far = carried F s half kind low n in
        let rest = carried_leaves n (omega arith) in
        leaves_both F (not half) kind low (low + suc n) s so_far (carried_at F so_far half kind (low + n))
        (leaves_wider F (not half) kind low (low + n) low (low + suc n) s so_far (omega arith) (omega arith) rest)
        (leaves_wider F (not half) kind (low + n) (low + n + 1) low (low + suc n) so_far (carried_at F so_far half kind (low + n)) (omega arith) (omega arith)
        (one_leaves so_far (omega (arith, rest.long)) (low + n) (omega arith)))

    -- each item carried stands in the other half as it stands in its own
    pub carried_item : (n i : ℕ) → low + n ≤ size_of kind → low ≤ i → i < low + n → item_at F (carried F s half kind low n) (not half) kind i ≡ item_at F s half kind i
    unfolding carried
    carried_item zero i within from upto = absurd (omega arith)
    carried_item (suc n) i within from upto = go (dec_lt i (low + n)) (carried_item n i (omega arith) from)
      where
        so_far : Store
        so_far = carried F s half kind low n

        rest : Leaves F (not half) kind low (low + n) s so_far
        rest = carried_leaves n (omega arith)

        enough : least F ≤ length so_far
        enough = omega (arith, rest.long)

        go : Dec (i < low + n) → (i < low + n → item_at F so_far (not half) kind i ≡ item_at F s half kind i)
            → item_at F (carried_at F so_far half kind (low + n)) (not half) kind i ≡ item_at F s half kind i
        go (yes lower) earlier = (one_leaves so_far enough (low + n) (omega arith)).items (not half) kind i known (omega arith) (before lower) ∙ earlier lower
        go (no last) earlier =
            let is : i ≡ low + n = omega arith in
            ap (item_at F (carried_at F so_far half kind (low + n)) (not half) kind) is
            ∙ one_item so_far enough (low + n) (omega arith)
            ∙ rest.items half kind (low + n) known (omega arith) (other_half own_half)
            ∙ ap (item_at F s half kind) (sym is)

  -- a part of a plan of `len` items in `half`, whose own items stand in the other half
  module _ (s : Store) (long : least F ≤ length s) (t : Task) (next len : ℕ) (ranges : TaskRanges len t next) (within : t.count ≤ size_of kind) where
    abbrev front : Store
    front = carried F s half kind 0 t.first

    abbrev rest : ℕ
    rest = t.count - (t.last + 1)

    order : t.first ≤ t.last
    order =
        let a = ranges.begun in
        let b = ranges.upto in
        omega arith

    inside : t.last < t.count
    inside = ranges.inside

    front_leaves : Leaves F (not half) kind 0 t.first s front
    front_leaves =
        leaves_wider F (not half) kind 0 (0 + t.first) 0 t.first s front (omega arith) (omega arith) (carried_leaves s long 0 t.first (omega (arith, order, inside)))

    front_long : least F ≤ length front
    front_long = omega (arith, front_leaves.long)

    rest_leaves : Leaves F (not half) kind (t.last + 1) (t.last + 1 + rest) front (filled F s half kind t)
    unfolding filled
    rest_leaves = carried_leaves front front_long (t.last + 1) rest (omega (arith, inside))

    pub filled_leaves : Leaves F (not half) kind 0 t.count s (filled F s half kind t)
    filled_leaves =
        leaves_both F (not half) kind 0 t.count s front (filled F s half kind t)
        (leaves_wider F (not half) kind 0 t.first 0 t.count s front (omega arith) (omega (arith, order, inside)) front_leaves)
        (leaves_wider F (not half) kind (t.last + 1) (t.last + 1 + rest) 0 t.count front (filled F s half kind t) (omega arith) (omega (arith, inside)) rest_leaves)

    -- what stands in the other half then: the plan's items before the part, the part's own, and the plan's items behind it
    at_front : (i : ℕ) → i < t.first → item_at F (filled F s half kind t) (not half) kind i ≡ item_at F s half kind i
    at_front i lower =
        rest_leaves.items (not half) kind i known (omega (arith, order, inside)) (before (omega (arith, order)))
        ∙ carried_item s long 0 t.first i (omega (arith, order, inside)) (omega arith) (omega arith)

    at_part : (i : ℕ) → t.first ≤ i → i ≤ t.last → item_at F (filled F s half kind t) (not half) kind i ≡ item_at F s (not half) kind i
    at_part i from upto =
        rest_leaves.items (not half) kind i known (omega (arith, inside)) (before (omega arith)) ∙ front_leaves.items (not half) kind i known (omega (arith, inside)) (behind from)

    at_rest : (i : ℕ) → t.last < i → i < t.count → item_at F (filled F s half kind t) (not half) kind i ≡ item_at F s half kind i
    unfolding filled
    at_rest i past upto =
        carried_item front front_long (t.last + 1) rest i (omega arith) (omega arith) (omega arith) ∙ front_leaves.items half kind i known (omega arith) (other_half own_half)

    -- the other half then has what the rules put in
    module _ (partial : t.partial ≡ true) where
      abbrev old : List Bytes
      old = items_in F s half kind len

      abbrev got : List Bytes
      got = drop t.first (items_in F s (not half) kind (t.last + 1))

      old_ranges : TaskRanges (length old) t next
      old_ranges = subst (λ (n : ℕ). TaskRanges n t next) (sym (length_items F s half kind len)) ranges

      all_got : t.first + length got ≡ t.last + 1
      all_got = omega (arith, length-drop t.first (items_in F s (not half) kind (t.last + 1)), length_items F s (not half) kind (t.last + 1), order)

      -- an item of the plan's own
      old_at : (i : ℕ) → i < t.count → (i < t.first) ⊎ (t.last < i) → item_at F s half kind i ≡ get_or (whole t old got) i []
      old_at i below apart =
          let count = ranges.part partial in
          sym (items_at F s half kind len i (omega arith)) ∙ sym (whole_outside t next old got old_ranges all_got i below apart)

      at_place : (i : ℕ) → i < t.count → get_or (items_in F (filled F s half kind t) (not half) kind t.count) i [] ≡ get_or (whole t old got) i []
      at_place i below = items_at F (filled F s half kind t) (not half) kind t.count i below ∙ go (dec_lt i t.first) (dec_lt t.last i)
        where
          go : Dec (i < t.first) → Dec (t.last < i) → item_at F (filled F s half kind t) (not half) kind i ≡ get_or (whole t old got) i []
          go (yes low) d = at_front i low ∙ old_at i below (inl low)
          go (no from) (yes past) = at_rest i past below ∙ old_at i below (inr past)
          go (no from) (no upto) =
              let j = i - t.first in
              let back : t.first + j ≡ i = omega arith in
              at_part i (omega arith) (omega arith)
              ∙ sym (items_at F s (not half) kind (t.last + 1) i (omega arith))
              ∙ ap (λ (n : ℕ). get_or (items_in F s (not half) kind (t.last + 1)) n []) (sym back)
              ∙ sym (get_or-drop t.first (items_in F s (not half) kind (t.last + 1)) j [])
              ∙ sym (whole_inside t next old got old_ranges all_got j (omega (arith, all_got)))
              ∙ ap (λ (n : ℕ). get_or (whole t old got) n []) back

      pub part_whole : items_in F (filled F s half kind t) (not half) kind t.count ≡ whole t old got
      part_whole =
          ext_get_or [] (items_in F (filled F s half kind t) (not half) kind t.count) (whole t old got)
          (length_items F (filled F s half kind t) (not half) kind t.count ∙ sym (whole_length t next old got old_ranges all_got))
          (λ i lower. at_place i (omega (arith, length_items F (filled F s half kind t) (not half) kind t.count)))
