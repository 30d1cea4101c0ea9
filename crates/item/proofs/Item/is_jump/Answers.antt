-- The test is the rules'.
use Rattle.std.proofs.Common.{refl}
use Rattle.item.proofs.Item.is_jump.Goals as goal

pub returns : goal.returns
returns c = refl
