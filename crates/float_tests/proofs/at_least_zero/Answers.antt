-- The comparisons decide the rule, by the law for every float.
use lib.Ieee.{of_bits, div}
use Rattle.float_tests.proofs.FloatTests.{at_least_zero_is}
use Rattle.float_tests.proofs.at_least_zero.Goals as goal

pub returns : goal.returns
unfolding of_bits div
returns c = at_least_zero_is c.args.x
