-- The comparisons decide the rule, by the law for every float.
use lib.Ieee.{of_bits, div}
use Rattle.float_tests.proofs.FloatTests.{above_zero_is}
use Rattle.float_tests.proofs.above_zero.Goals as goal

pub returns : goal.returns
unfolding of_bits div
returns c = above_zero_is c.args.x
