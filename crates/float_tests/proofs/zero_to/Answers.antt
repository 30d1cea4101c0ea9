-- The limit as a float has the limit's value, since every u16 is a value of f32; the comparisons decide the rule, by the law for every float.
use Prim.Native.Nat.{◌≤◌, ◌^◌}
use native.Mathlib.Omega.{arith}
use mathlib.Core.Bool.{false}
use lib.IntN.{pos}
use lib.Ieee.{binary32, prec, of_bits, of_int}
use lib.Ieee.Back.{round_whole}
use Rattle.float_tests.proofs.FloatTests.{zero_to_is}
use Rattle.float_tests.proofs.zero_to.Goals as goal

pub returns : goal.returns
unfolding of_bits of_int
returns c = let limit = c.args.limit in
    let small : limit ≤ 2 ^ prec binary32 = omega arith in
    zero_to_is limit (of_int binary32 (pos limit)) (round_whole binary32 false limit small) c.args.x
