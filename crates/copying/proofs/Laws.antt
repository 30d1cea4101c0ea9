-- Laws of copies in blocks, over a block's width.
use Prim.Native.Nat.{ℕ, ◌+◌, ◌-◌, ◌≤◌}
use mathlib.Core.Path.{◌≡◌, sym, ap, ap₂, ◌∙◌}
use mathlib.Core.List.{List, ◌++◌}
use native.Mathlib.Omega.{arith}
use lib.ListN.{length, take, drop, length-drop}
use lib.Seq.{paste, take-take, take-add, take-append-le, take_at, drop-append-add, drop-drop, length-take-le}

module _ (w : ℕ) (src out : List ℕ) where
  -- w bytes that a block took from a place on, whatever else it holds, go to the same place
  pub through_block : (more : List ℕ) (at : ℕ) → at + w ≤ length src
      → paste out at (take w (take (length src - at) (drop at src)) ++ more) w ≡ paste out at (drop at src) w
  through_block more at long =
      let rest = drop at src in
      let taken : take w (take (length src - at) rest) ≡ take w rest = take-take w (length src - at) rest (omega arith) in
      let size : length (take w rest) ≡ w = length-take-le w rest (omega (arith, length-drop at src)) in
      ap (λ (l : List ℕ). take at out ++ l ++ drop (at + w) out)
      (ap (λ (l : List ℕ). take w (l ++ more)) taken ∙ take_at (take w rest) more w size)

  -- a block from a place on, where the first k bytes are copied and these reach that place: all up to the block's end are copied
  block_at : (k at : ℕ) → at ≤ k → k ≤ at + w → at + w ≤ length src → paste (paste out 0 src k) at (drop at src) w ≡ paste out 0 src (at + w)
  block_at k at reached short long =
      let front : List ℕ = take k src in
      let m = at + w - k in
      let size : length front ≡ k = length-take-le k src (omega arith) in
      let after : at + w ≡ length front + m = omega arith in
      let end : 0 + k + m ≡ 0 + (at + w) = omega arith in
      let low : take at (front ++ drop (0 + k) out) ++ take w (drop at src) ≡ take (at + w) src =
      ap (λ (l : List ℕ). l ++ take w (drop at src)) (take-append-le at front (drop (0 + k) out) (omega arith) ∙ take-take at k src reached)
      ∙ sym (take-add at w src) in
      let high : drop (at + w) (front ++ drop (0 + k) out) ≡ drop (0 + (at + w)) out =
      ap (λ (i : ℕ). drop i (front ++ drop (0 + k) out)) after
      ∙ drop-append-add front (drop (0 + k) out) m
      ∙ drop-drop m (0 + k) out
      ∙ ap (λ (i : ℕ). drop i out) end in
      ap₂ (λ (a b : List ℕ). a ++ b) low high

  -- so of n bytes one more block is copied, or the last one
  module _ (k : ℕ) (now next : List ℕ) (copied : now ≡ paste out 0 src k) where
    pub one_more : k + w ≤ length src → next ≡ paste now k (drop k src) w → next ≡ paste out 0 src (k + w)
    one_more long e = e ∙ ap (λ (l : List ℕ). paste l k (drop k src) w) copied ∙ block_at k k (omega arith) (omega arith) long

    pub the_last : (n : ℕ) → w ≤ n → n - w ≤ k → k ≤ n → n ≤ length src → next ≡ paste now (n - w) (drop (n - w) src) w → next ≡ paste out 0 src n
    the_last n some reached short long e =
        let end : n - w + w ≡ n = omega arith in
        e
        ∙ ap (λ (l : List ℕ). paste l (n - w) (drop (n - w) src) w) copied
        ∙ block_at k (n - w) reached (omega arith) (omega arith)
        ∙ ap (λ (i : ℕ). paste out 0 src i) end
