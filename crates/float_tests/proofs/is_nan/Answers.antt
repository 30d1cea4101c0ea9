-- The library's test is the rule's.
use Rattle.float_tests.proofs.is_nan.Goals as goal

pub returns : goal.returns
returns c = c.is_nan.ensures.value
