-- What is written of words: for each way that the tests can go, and word by word.
use Prim.Native.Nat.{ℕ, zero, suc, ◌+◌, ◌*◌, ◌-◌, ◌/◌, ◌%◌, ◌<◌, ◌≤◌}
use mathlib.Core.Path.{◌≡◌, refl, ap, sym, ◌∙◌}
use mathlib.Core.List.{List, [], ◌∷◌, ◌++◌, append_assoc}
use native.Mathlib.Numerals.{add-one}
use native.Mathlib.Omega.{arith}
use lib.ListN.{length, set, get_or, take, drop, length-append, length-take, take-append-drop}
use lib.Seq.{drop-cons, set_at}
use borrow.Author.Tests.{eq-eqb, ne_eqb, le-leb}
use Rattle.rules.specs.Payload.{Bytes, number_at}
use Rattle.writing.specs.Written.{written, word_bytes, words_in, words_written}
use Rattle.writing.proofs.Ways.{no_place, no_room}

length_words : (n : ℕ) (p : Bytes) → length (words_in n p) ≡ n
unfolding words_in
length_words zero p = refl
length_words (suc n) p = length-append (words_in n p) (number_at word_bytes (n * word_bytes) p ∷ []) ∙ ap (λ (k : ℕ). k + 1) (length_words n p) ∙ add-one n

-- one word more
written_more : (d : List ℕ) (at : ℕ) (w : List ℕ) (x : ℕ) → at + length w < length d → set (written d at w) (at + length w) x ≡ written d at (w ++ (x ∷ []))
unfolding written
written_more d at w x h =
    let front : List ℕ = take at d ++ w in
    let here : ℕ = at + length w in
    let size : length front ≡ here = simp (length-append, length-take) (omega arith) in
    let more : at + length (w ++ (x ∷ [])) ≡ suc here = simp length-append (omega arith) in
    let last : ℕ = get_or d here 0 in
    let rest : List ℕ = drop (suc here) d in
    rw (le-leb here (length d) (omega arith), more, le-leb (suc here) (length d) (omega arith), drop-cons d here 0 h, ← append_assoc (take at d) w (last ∷ rest), set_at front last rest x here size)
    (simp append_assoc)

module _ (store : List ℕ) (at : ℕ) (p : Bytes) where
  pub no_words : (length p % word_bytes ≡ 0 → ⊥) → store ≡ words_written store at p
  unfolding words_written
  no_words h = rw (ne_eqb (length p % word_bytes) 0 h)

  module _ (whole : length p % word_bytes ≡ 0) where
    pub no_word_place : length store < at → store ≡ words_written store at p
    unfolding words_written
    no_word_place h = rw (eq-eqb (length p % word_bytes) 0 whole) (no_place store at (words_in (length p / word_bytes) p) h)

    pub no_word_room : at ≤ length store → length store - at < length p / word_bytes → store ≡ words_written store at p
    unfolding words_written
    no_word_room h short =
        rw (eq-eqb (length p % word_bytes) 0 whole) (no_room store at (words_in (length p / word_bytes) p) h (omega (arith, length_words (length p / word_bytes) p)))

    pub words_written_lem : (now : List ℕ) (i : ℕ) → i ≤ length p / word_bytes → length p / word_bytes ≤ i → now ≡ written store at (words_in i p) → now ≡ words_written store at p
    unfolding words_written
    words_written_lem now i most all e = let end : i ≡ length p / word_bytes = omega arith in rw (eq-eqb (length p % word_bytes) 0 whole, ← end) e

  pub none_written : at ≤ length store → store ≡ written store at (words_in 0 p)
  unfolding written words_in
  none_written h = let here : at + 0 ≡ at = omega arith in rw (here, le-leb at (length store) h) (sym (take-append-drop at store))

  pub word_written
      : (now : List ℕ) (i x : ℕ) → at + i < length store → now ≡ written store at (words_in i p) → x ≡ number_at word_bytes (i * word_bytes) p → set now (at + i) x ≡ written store at (words_in (i + 1) p)
  unfolding words_in
  word_written now i x h e is =
      let long : length (words_in i p) ≡ i = length_words i p in
      rw (add-one i, e, is)
      (ap (λ (k : ℕ). set (written store at (words_in i p)) (at + k) (number_at word_bytes (i * word_bytes) p)) (sym long)
      ∙ written_more store at (words_in i p) (number_at word_bytes (i * word_bytes) p) (omega arith))
