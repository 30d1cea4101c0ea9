-- Folding a test of each over a list says whether it holds of every one.
use Rattle.std.proofs.Common.{◌≡◌, refl, ◌∙◌, List, [], ◌∷◌, Bool, true, ◌&&◌, ℕ, leb, rules}
use Rattle.std.proofs.Math.Bool.{and-true, and_assoc}
use Rattle.std.proofs.lemmas.Iterator.{YieldsList-from_slice}
use Rattle.std.proofs.lemmas.Iterator.Consumers.{fold_from_yields_List}
use Rattle.std.specs.List.{fold}
use Rattle.rules.specs.Limits.{max_runs}
use Rattle.rules.specs.Model.{every}
use Rattle.ranges.specs.Ranges.{counts_ranged}
use Rattle.ranges.proofs.counts_ranged.Goals as goal

folded : (test : ℕ → Bool) (ok : Bool) (l : List ℕ) → fold (λ b n. b && test n) ok l ≡ (ok && every test l)
folded test ok [] = simp and-true
folded test ok (a ∷ l) = rw (folded test (ok && test a) l, and_assoc)

pub returns : goal.returns
unfolding counts_ranged
returns c =
    fold_from_yields_List _ (λ ok n. ok && leb n max_runs) true c.fold.result c.fold.ensures.ran (YieldsList-from_slice c.args.counts.now c.iter.ensures.rest) (λ ok n next f k. (refl, search rules))
    ∙ folded (λ n. leb n max_runs) true c.args.counts.now
