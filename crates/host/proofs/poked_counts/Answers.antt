-- `host::poked_counts` sets a count that there is; the check finds the rest.
use native.Mathlib.Omega.{arith}
use Rattle.host.proofs.poked_counts.Goals as goal

pub bounds-after-i : goal.bounds-after-i
bounds-after-i c = omega arith
