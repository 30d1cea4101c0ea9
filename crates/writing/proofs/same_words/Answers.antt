-- `writing::same_words` meets its contract, by what `==` tells of slices.
use Rattle.std.proofs.lemmas.Bool.Decides.{Decides-eqb}
use Rattle.std.proofs.lemmas.Slice.Eq.{slice_eq-Decides}
use Rattle.writing.proofs.same_words.Goals as goal

pub returns : goal.returns
returns c = let a = c.args in slice_eq-Decides Decides-eqb a.a.now a.b.now c.eq.result c.eq.ensures
