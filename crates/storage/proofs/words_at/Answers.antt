-- The chunk of an item place is its eight words, and each is below 2^32 by its type.
use Rattle.std.proofs.Common.{◌≡◌, refl, ap, ◌∙◌, subst, sym, ℕ, zero, suc, ◌+◌, ◌*◌, ◌/◌, ◌<◌, ◌≤◌, List, [], length, get_or, take, drop, arith}
use Rattle.std.proofs.Math.Seq.{drop-drop}
use Rattle.std.specs.Simd.{first_chunks}
use Rattle.rules.specs.Limits.{item_words, clock_values}
use Rattle.places.specs.Part.{part, part_below}
use Rattle.storage.proofs.words_at.Goals as goal

-- a chunk of a list is the part of it at its place
chunk_at : (n k i : ℕ) (s : List ℕ) → i < k → get_or (first_chunks n k s) i [] ≡ part s (i * n) n
unfolding part
chunk_at n zero i s below = absurd (omega arith)
chunk_at n (suc k) zero s below = let e : 0 * n ≡ 0 = omega arith in rw e refl
chunk_at n (suc k) (suc i) s below =
    let e : n + i * n ≡ suc i * n = omega arith in
    chunk_at n k i (drop n s) (omega arith) ∙ ap (take n) (drop-drop (i * n) n s ∙ ap (λ (m : ℕ). drop m s) e)

pub bounds-as_chunks-place : goal.bounds-as_chunks-place
bounds-as_chunks-place c = omega (arith, c.as_chunks.ensures.front_len)

part_at : (store chunk : List ℕ) (chunks : List (List ℕ)) (place : ℕ) → place * item_words + item_words ≤ length store → chunks ≡ first_chunks item_words (length store / item_words) store
    → chunk ≡ get_or chunks place [] → chunk ≡ part store (place * item_words) item_words
part_at store chunk chunks place within front is =
    let below : place < length store / item_words = omega arith in
    is ∙ ap (λ (l : List (List ℕ)). get_or l place []) front ∙ chunk_at item_words (length store / item_words) place store below

pub returns-clause-there : goal.returns-clause-there
returns-clause-there c = part_at c.args.store.now _ _ c.args.place c.requires c.as_chunks.ensures.front refl

pub returns-clause-small : goal.returns-clause-small
returns-clause-small c = λ i.
    subst (λ (l : List ℕ). get_or l i 0 < clock_values) (sym (part_at c.args.store.now _ _ c.args.place c.requires c.as_chunks.ensures.front refl))
    (part_below c.args.store.now (c.args.place * item_words) item_words clock_values (λ j. (c.type_inv.store j).fits) i)
