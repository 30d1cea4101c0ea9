-- The library's test is the rule's, for every float.
use Rattle.std.proofs.Common.{◌≡◌, refl, ◌∙◌}
use Rattle.std.specs.Prelude.{Float}
use Rattle.std.specs.Float.{nan, inf, fin, float_is_finite}
use Rattle.rules.specs.Values.{finite}
use Rattle.float_tests.proofs.is_finite.Goals as goal

finite_is : (x : Float) → float_is_finite x ≡ finite x
unfolding finite float_is_finite
finite_is nan = refl
finite_is (inf s) = refl
finite_is (fin s m e) = refl

pub returns : goal.returns
returns c = c.is_finite.ensures.value ∙ finite_is c.args.x
