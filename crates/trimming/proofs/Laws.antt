-- Laws of trimming: bytes by those that end them.
use Prim.Native.Nat.{ℕ, zero, suc, ◌+◌, ◌-◌, ◌*◌, ◌<◌, ◌≤◌, min, max}
use mathlib.Core.Path.{◌≡◌, refl, ap, sym, ◌∙◌}
use mathlib.Core.List.{List, [], ◌∷◌, ◌++◌}
use mathlib.Core.Bool.{Bool, true, false, cond}
use native.Mathlib.Nat.{zero-add}
use native.Mathlib.Omega.{arith}
use lib.Dec.{eqb}
use lib.ListN.{length, get_or, take, drop, length-take, length-drop}
use lib.Seq.{take-add, drop-cons, drop-drop, length-take-le, paste, get_or-drop}
use Rattle.std.specs.Simd.{first_chunks}
use Rattle.std.proofs.lemmas.List.{take-append-drop}
use borrow.Author.Tests.{ne_eqb}
use Rattle.rules.specs.Payload.{Bytes, significant, trim}

significant_at_most : (bs : Bytes) → significant bs ≤ length bs
unfolding significant
significant_at_most [] = omega arith
significant_at_most (b ∷ bs) = go (significant_at_most bs) (eqb b 0) (eqb (significant bs) 0)
  where
    go : significant bs ≤ length bs → (t u : Bool) → cond t (cond u 0 (suc (significant bs))) (suc (significant bs)) ≤ suc (length bs)
    go h true true = omega arith
    go h true false = omega arith
    go h false u = omega arith

-- bytes that end in zeros, and bytes that end in others of which some are significant

zeros_end : (bs end : Bytes) → significant end ≡ 0 → significant (bs ++ end) ≡ significant bs
unfolding significant
zeros_end [] end e = e
zeros_end (b ∷ bs) end e = ap (λ (s : ℕ). cond (eqb b 0) (cond (eqb s 0) 0 (suc s)) (suc s)) (zeros_end bs end e)

either : (t : Bool) (n : ℕ) → cond t n n ≡ n
either true n = refl
either false n = refl

others_end : (bs end : Bytes) → 0 < significant end → significant (bs ++ end) ≡ length bs + significant end
unfolding significant
others_end [] end h = omega arith
others_end (b ∷ bs) end h =
    let more : significant (bs ++ end) ≡ length bs + significant end = others_end bs end h in
    rw (more, ne_eqb (length bs + significant end) 0 (λ e. omega arith)) (either (eqb b 0) (suc (length bs + significant end)) ∙ omega arith)

-- the first bytes of a list, by the w of them from a place on that end them

window_zero : (bs : Bytes) (at w : ℕ) → significant (take w (drop at bs)) ≡ 0 → significant (take (at + w) bs) ≡ significant (take at bs)
window_zero bs at w e = ap significant (take-add at w bs) ∙ zeros_end (take at bs) (take w (drop at bs)) e

window_other :
    (bs : Bytes) (at w : ℕ) → at ≤ length bs → 0 < significant (take w (drop at bs)) → significant (take (at + w) bs) ≡ at + significant (take w (drop at bs))
window_other bs at w h some =
    ap significant (take-add at w bs)
    ∙ others_end (take at bs) (take w (drop at bs)) some
    ∙ ap (λ (n : ℕ). n + significant (take w (drop at bs))) (length-take-le at bs h)

-- one byte from a place on, and whether it is significant
byte_window : (bs : Bytes) (at : ℕ) → at < length bs → take 1 (drop at bs) ≡ get_or bs at 0 ∷ []
byte_window bs at h = ap (take 1) (drop-cons bs at 0 h)

byte_zero : (bs : Bytes) (at : ℕ) → at < length bs → get_or bs at 0 ≡ 0 → significant (take 1 (drop at bs)) ≡ 0
unfolding significant
byte_zero bs at h e = ap significant (byte_window bs at h) ∙ ap (λ (b : ℕ). significant (b ∷ [])) e

byte_other : (bs : Bytes) (at : ℕ) → at < length bs → (get_or bs at 0 ≡ 0 → ⊥) → significant (take 1 (drop at bs)) ≡ 1
unfolding significant
byte_other bs at h e = ap significant (byte_window bs at h) ∙ rw (ne_eqb (get_or bs at 0) 0 e)

-- bytes that are all zeros
all_zeros : (bs : Bytes) → ((k : ℕ) → k < length bs → get_or bs k 0 ≡ 0) → significant bs ≡ 0
unfolding significant
all_zeros [] zeros = refl
all_zeros (b ∷ bs) zeros =
    let first : b ≡ 0 = zeros 0 (omega arith) in
    let rest : significant bs ≡ 0 = all_zeros bs (λ k below. zeros (suc k) (omega arith)) in
    rw (first, rest)

-- the trimmed length, where the last byte that is not zero stands at a place, and where there is none

trimmed : (bs : Bytes) (n : ℕ) → n ≤ length bs → max 1 (significant bs) ≡ n → n ≡ length (trim bs)
unfolding trim
trimmed bs n h e = rw e (sym (length-take-le n bs h))

pub last_significant :
    (bs : Bytes) (last : ℕ) → last < length bs → (get_or bs last 0 ≡ 0 → ⊥) → ((k : ℕ) → last < k → k < length bs → get_or bs k 0 ≡ 0)
    → significant bs ≡ last + 1
last_significant bs last short other zeros =
    let here : significant (take (last + 1) bs) ≡ last + significant (take 1 (drop last bs)) =
    window_other bs last 1 (omega arith) (omega (arith, byte_other bs last short other)) in
    let end : significant (drop (last + 1) bs) ≡ 0 =
    all_zeros (drop (last + 1) bs) (λ k below. get_or-drop (last + 1) bs k 0 ∙ zeros (last + 1 + k) (omega arith) (omega (arith, length-drop (last + 1) bs))) in
    let whole : significant bs ≡ significant (take (last + 1) bs) =
    ap significant (sym (take-append-drop (last + 1) bs)) ∙ zeros_end (take (last + 1) bs) (drop (last + 1) bs) end in
    omega (arith, here, whole, byte_other bs last short other)

pub trimmed_other :
    (bs : Bytes) (last : ℕ) → last < length bs → (get_or bs last 0 ≡ 0 → ⊥) → ((k : ℕ) → last < k → k < length bs → get_or bs k 0 ≡ 0)
    → last + 1 ≡ length (trim bs)
trimmed_other bs last short other zeros = trimmed bs (last + 1) (omega arith) (omega (arith, last_significant bs last short other zeros))

pub trimmed_none : (bs : Bytes) → ((k : ℕ) → k < length bs → get_or bs k 0 ≡ 0) → min (length bs) 1 ≡ length (trim bs)
unfolding trim
trimmed_none bs zeros = let none : significant bs ≡ 0 = all_zeros bs zeros in omega (arith, length-take (max 1 (significant bs)) bs)

-- the same, by the eights that stand behind the first bytes: one of a row of chunks is the part of the list at its place
chunk_at : (n k i : ℕ) (s : Bytes) → i < k → get_or (first_chunks n k s) i [] ≡ take n (drop (i * n) s)
chunk_at n zero i s below = absurd (omega arith)
chunk_at n (suc k) zero s below = let e : 0 * n ≡ 0 = omega arith in rw e refl
chunk_at n (suc k) (suc i) s below =
    let e : n + i * n ≡ suc i * n = omega arith in
    chunk_at n k i (drop n s) (omega arith) ∙ ap (take n) (drop-drop (i * n) n s ∙ ap (λ (m : ℕ). drop m s) e)

module _ (bs : Bytes) (first k : ℕ) (eights : List Bytes) (is : eights ≡ first_chunks 8 k (drop first bs)) (count : length eights ≡ k) (inside : first + k * 8 ≤ length bs) where
  eight_at : (i : ℕ) → i < k → get_or eights i [] ≡ take 8 (drop (first + i * 8) bs)
  eight_at i below = ap (λ (l : List Bytes). get_or l i []) is ∙ chunk_at 8 k i (drop first bs) below ∙ ap (take 8) (drop-drop (i * 8) first bs)

  -- where all are zeros from one on, and as many as follow, nothing is significant in these
  passed : (m d : ℕ) → m + d ≤ k → ((i : ℕ) → m ≤ i → i < k → significant (get_or eights i []) ≡ 0) → significant (take (first + (m + d) * 8) bs) ≡ significant (take (first + m * 8) bs)
  passed m zero upto zeros = let e : first + (m + 0) * 8 ≡ first + m * 8 = omega arith in ap (λ (n : ℕ). significant (take n bs)) e
  passed m (suc d) upto zeros =
      let e : first + (m + suc d) * 8 ≡ first + (m + d) * 8 + 8 = omega arith in
      let none : significant (take 8 (drop (first + (m + d) * 8) bs)) ≡ 0 =
      ap significant (sym (eight_at (m + d) (omega arith))) ∙ zeros (m + d) (omega arith) (omega arith) in
      ap (λ (n : ℕ). significant (take n bs)) e ∙ window_zero bs (first + (m + d) * 8) 8 none ∙ passed m d (omega arith) zeros

  module _ (rest : Bytes) (behind : rest ≡ drop (first + k * 8) bs) where
    parted : take (first + k * 8) bs ++ rest ≡ bs
    parted = ap (λ (l : Bytes). take (first + k * 8) bs ++ l) behind ∙ take-append-drop (first + k * 8) bs

    size : length rest ≡ length bs - (first + k * 8)
    size = ap length behind ∙ length-drop (first + k * 8) bs

    -- the last byte that is not zero stands behind the eights
    pub trimmed_rest : (last : ℕ) → last < length rest → (get_or rest last 0 ≡ 0 → ⊥) → ((i : ℕ) → last < i → i < length rest → get_or rest i 0 ≡ 0)
        → length bs - length rest + last + 1 ≡ length (trim bs)
    trimmed_rest last short other zeros =
        let some : significant rest ≡ last + 1 = last_significant rest last short other zeros in
        let whole : significant bs ≡ length (take (first + k * 8) bs) + significant rest =
        ap significant (sym parted) ∙ others_end (take (first + k * 8) bs) rest (omega arith) in
        trimmed bs (length bs - length rest + last + 1) (omega (arith, size))
        (omega (arith, whole, some, size, length-take-le (first + k * 8) bs inside))

    module _ (none : (i : ℕ) → i < length rest → get_or rest i 0 ≡ 0) where
      upto_there : (m : ℕ) → m ≤ k → ((i : ℕ) → m ≤ i → i < k → significant (get_or eights i []) ≡ 0) → significant bs ≡ significant (take (first + m * 8) bs)
      upto_there m upto zeros =
          let end : m + (k - m) ≡ k = omega arith in
          ap significant (sym parted)
          ∙ zeros_end (take (first + k * 8) bs) rest (all_zeros rest none)
          ∙ ap (λ (n : ℕ). significant (take (first + n * 8) bs)) (sym end)
          ∙ passed m (k - m) (omega arith) zeros

      -- in one of the eights
      pub trimmed_eight : (last z : ℕ) → last < length eights → (significant (get_or eights last []) ≡ 0 → ⊥)
          → ((i : ℕ) → last < i → i < length eights → significant (get_or eights i []) ≡ 0) → z + significant (get_or eights last []) ≡ 8
          → first + 8 * last + (8 - z) ≡ length (trim bs)
      trimmed_eight last z short other zeros ends =
          let here = eight_at last (omega arith) in
          let some : 0 < significant (take 8 (drop (first + last * 8) bs)) = omega (arith, ap significant here, other) in
          let next : first + suc last * 8 ≡ first + last * 8 + 8 = omega arith in
          let whole : significant bs ≡ first + last * 8 + significant (take 8 (drop (first + last * 8) bs)) =
          upto_there (suc last) (omega arith) (λ i from below. zeros i (omega arith) (omega arith))
          ∙ ap (λ (n : ℕ). significant (take n bs)) next
          ∙ window_other bs (first + last * 8) 8 (omega arith) some in
          trimmed bs (first + 8 * last + (8 - z)) (omega arith) (omega (arith, whole, ap significant here))

      -- nowhere behind the first byte
      pub trimmed_first : first ≡ 1 → ((i : ℕ) → i < length eights → significant (get_or eights i []) ≡ 0) → 1 ≡ length (trim bs)
      trimmed_first one zeros =
          let whole : significant bs ≡ significant (take (first + 0 * 8) bs) = upto_there 0 (omega arith) (λ i from below. zeros i (omega arith)) in
          trimmed bs 1 (omega arith) (omega (arith, whole, significant_at_most (take (first + 0 * 8) bs), length-take (first + 0 * 8) bs))

-- where a message has bytes at all, its trimmed bytes are its first ones
pub trim_front : (bs : Bytes) → 0 < length bs → (length (trim bs) ≤ length bs) × (take (length (trim bs)) bs ≡ trim bs)
unfolding trim
trim_front bs pos =
    let most : max 1 (significant bs) ≤ length bs = omega (arith, significant_at_most bs) in
    let long : length (take (max 1 (significant bs)) bs) ≡ max 1 (significant bs) = length-take-le (max 1 (significant bs)) bs most in
    (omega arith, ap (λ (k : ℕ). take k bs) long)

-- so copying them to the start of a buffer writes the trimmed bytes and leaves the rest
pub pasted : (out bs : Bytes) (n : ℕ) → n ≡ length (trim bs) → 0 < length bs → paste out 0 bs n ≡ trim bs ++ drop (length (trim bs)) out
pasted out bs n e pos =
    ap (λ (k : ℕ). take n bs ++ drop k out) (zero-add n)
    ∙ ap (λ (k : ℕ). take k bs ++ drop k out) e
    ∙ ap (λ (l : Bytes). l ++ drop (length (trim bs)) out) (trim_front bs pos).1
