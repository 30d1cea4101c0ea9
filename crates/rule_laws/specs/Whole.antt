-- What a completed upload puts in, whole or partial: as many items as its count; those that were taken from its first number to its last; and at every other number the
-- plan's own.
use Rattle.std.specs.Prelude.{ℕ, ◌+◌, ◌-◌, ◌≤◌, ◌<◌, ◌≡◌, ◌⊎◌, Bool}
use Rattle.std.proofs.Common.{arith, sym, ◌∙◌, inl, inr, length-append, length-take-le}
use Rattle.std.proofs.Math.Path.{refl, ap}
use mathlib.Core.List.{List, [], ◌++◌}
use Rattle.std.proofs.Math.Bool.{true, false}
use Rattle.std.proofs.Math.ListN.{length, get_or, take, drop, length-drop, get_or-append}
use Rattle.std.proofs.Math.Seq.{get_or-take, get_or-drop, get_or-append-add}
use Rattle.rules.specs.Payload.{Bytes}
use Rattle.rules.specs.Model.{Task, whole}
use Rattle.rule_laws.specs.Tasks.{TaskRanges}

-- all items: they are what was taken
pub whole_all : (t : Task) (old got : List Bytes) → t.partial ≡ false → whole t old got ≡ got
unfolding whole
whole_all t old got all = rw all

module _ (t : Task) (next : ℕ) (old got : List Bytes) (h : TaskRanges (length old) t next) (all : t.first + length got ≡ t.last + 1) where
  before_end : t.last < t.count
  before_end = h.inside

  begins : t.first ≤ t.last
  begins =
      let a = h.begun in
      let b = h.upto in
      omega arith

  -- a part lies within the plan
  within : t.partial ≡ true → t.last < length old
  within b =
      let a = before_end in
      let c = h.part b in
      omega arith

  front_long : t.partial ≡ true → length (take t.first old) ≡ t.first
  front_long b = length-take-le t.first old (omega (arith, begins, within b))

  brought_long : t.partial ≡ true → length (take t.first old ++ got) ≡ t.last + 1
  brought_long b = length-append (take t.first old) got ∙ ap (λ (n : ℕ). n + length got) (front_long b) ∙ all

  pub whole_length : length (whole t old got) ≡ t.count
  unfolding whole
  whole_length = go t.partial refl
    where
      go : (b : Bool) → t.partial ≡ b → length (whole t old got) ≡ t.count
      go true b =
          let count = h.part b in
          rw b (length-append (take t.first old ++ got) (drop (t.last + 1) old) ∙ omega (arith, brought_long b, length-drop (t.last + 1) old, within b))
      go false b =
          let first = h.from_start b in
          let end = h.to_end b in
          rw b (omega arith)

  pub whole_inside : (j : ℕ) → j < length got → get_or (whole t old got) (t.first + j) [] ≡ get_or got j []
  unfolding whole
  whole_inside j below = go t.partial refl
    where
      go : (b : Bool) → t.partial ≡ b → get_or (whole t old got) (t.first + j) [] ≡ get_or got j []
      go true b =
          let front = take t.first old in
          rw b
          (get_or-append (front ++ got) (drop (t.last + 1) old) [] (t.first + j) (omega (arith, brought_long b))
          ∙ ap (λ (n : ℕ). get_or (front ++ got) (n + j) []) (sym (front_long b))
          ∙ get_or-append-add front got j [])
      go false b =
          let first = h.from_start b in
          rw b (ap (λ (n : ℕ). get_or got n []) (omega arith))

  pub whole_outside : (i : ℕ) → i < t.count → (i < t.first) ⊎ (t.last < i) → get_or (whole t old got) i [] ≡ get_or old i []
  unfolding whole
  whole_outside i below apart = go t.partial refl apart
    where
      go : (b : Bool) → t.partial ≡ b → (i < t.first) ⊎ (t.last < i) → get_or (whole t old got) i [] ≡ get_or old i []
      go true b (inl before) =
          let front = take t.first old in
          rw b
          (get_or-append (front ++ got) (drop (t.last + 1) old) [] i (omega (arith, brought_long b, begins))
          ∙ get_or-append front got [] i (omega (arith, front_long b))
          ∙ get_or-take t.first old i [] before)
      go true b (inr after) =
          let brought = take t.first old ++ got in
          let rest = drop (t.last + 1) old in
          let k = i - (t.last + 1) in
          rw b
          (ap (λ (n : ℕ). get_or (brought ++ rest) n []) (omega (arith, brought_long b))
          ∙ get_or-append-add brought rest k []
          ∙ get_or-drop (t.last + 1) old k []
          ∙ ap (λ (n : ℕ). get_or old n []) (omega arith))
      go false b (inl before) = absurd (let first = h.from_start b in omega arith)
      go false b (inr after) = absurd (let end = h.to_end b in omega arith)
