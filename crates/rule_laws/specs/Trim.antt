-- Trimming: what is dropped reads as zero.
use Rattle.std.specs.Prelude.{ℕ, zero, suc, ◌≤◌, max, ◌≡◌, refl, [], ◌∷◌, Bool, true, false, cond, get_or, take, eqb, ltb}
use Rattle.std.proofs.Common.{not-suc-le-zero, arith, sym, ◌∙◌, length-take, get_or-take, eqb-true, ltb-true, ltb-false}
use Rattle.std.proofs.Math.ListN.{get_or-eq_default}
use Rattle.rules.specs.Payload.{Bytes, significant, trim}

-- past the significant bytes there are only zeros
past_more :
    (b : ℕ) (bs : Bytes) (t u : Bool) → eqb b 0 ≡ t → eqb (significant bs) 0 ≡ u → ((i : ℕ) → significant bs ≤ i → get_or bs i 0 ≡ 0)
    → (i : ℕ) → cond t (cond u 0 (suc (significant bs))) (suc (significant bs)) ≤ i → get_or (b ∷ bs) i 0 ≡ 0
past_more b bs true u et eu ih zero l = eqb-true b 0 et
past_more b bs false u et eu ih zero l = absurd (not-suc-le-zero l)
past_more b bs true true et eu ih (suc i) l = ih i (let none : significant bs ≡ 0 = eqb-true (significant bs) 0 eu in omega arith)
past_more b bs true false et eu ih (suc i) l = ih i (omega arith)
past_more b bs false u et eu ih (suc i) l = ih i (omega arith)

past_significant : (bs : Bytes) (i : ℕ) → significant bs ≤ i → get_or bs i 0 ≡ 0
unfolding significant
past_significant [] i h = refl
past_significant (b ∷ bs) i h = past_more b bs (eqb b 0) (eqb (significant bs) 0) refl refl (past_significant bs) i h

-- a trimmed payload reads as the whole one
pub get_d_trim : (bs : Bytes) (i : ℕ) → get_or (trim bs) i 0 ≡ get_or bs i 0
unfolding trim
get_d_trim bs i = go (ltb i (max 1 (significant bs))) refl
  where
    go : (t : Bool) → ltb i (max 1 (significant bs)) ≡ t → get_or (take (max 1 (significant bs)) bs) i 0 ≡ get_or bs i 0
    go true e = get_or-take (max 1 (significant bs)) bs i 0 (ltb-true i (max 1 (significant bs)) e)
    go false e =
        let past : max 1 (significant bs) ≤ i = ltb-false i (max 1 (significant bs)) e in
        get_or-eq_default (take (max 1 (significant bs)) bs) 0 (rw length-take (omega arith)) ∙ sym (past_significant bs i (omega arith))
