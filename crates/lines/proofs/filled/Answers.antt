-- Folding a test of each byte over them says whether it holds of every one.
use Rattle.std.proofs.Common.{◌≡◌, refl, ◌∙◌, List, [], ◌∷◌, Bool, true, ◌&&◌, ℕ, rules}
use Rattle.std.proofs.Math.Bool.{and-true, and_assoc}
use Rattle.std.proofs.lemmas.Iterator.{YieldsList-from_slice}
use Rattle.std.proofs.lemmas.Iterator.Consumers.{fold_from_yields_List}
use Rattle.std.specs.List.{fold}
use lib.Dec.{eqb}
use Rattle.lines.specs.Lines.{untouched}
use Rattle.lines.proofs.filled.Goals as goal

folded : (same : Bool) (l : List ℕ) → fold (λ b n. b && eqb n 165) same l ≡ (same && untouched l)
unfolding untouched
folded same [] = simp and-true
folded same (a ∷ l) = rw (folded (same && eqb a 165) l, and_assoc)

pub returns : goal.returns
returns c =
    fold_from_yields_List _ (λ same n. same && eqb n 165) true c.fold.result c.fold.ensures.ran (YieldsList-from_slice c.args.bytes.now c.iter.ensures.rest) (λ same n next f k. (refl, search rules))
    ∙ folded true c.args.bytes.now
