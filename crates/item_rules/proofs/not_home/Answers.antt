-- The test is the rule's.
use mathlib.Core.Path.{refl}
use Rattle.item_rules.proofs.not_home.Goals as goal

pub returns : goal.returns
returns c = refl
