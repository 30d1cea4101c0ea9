use mathlib.Core.Path.{◌≡◌}
use Prim.Native.Nat.{◌*◌}
use lib.ListN.{length, take}
use Rattle.text.specs.Digits.{hex}
use Rattle.text.proofs.numerals.fill_digits.Given as goal

abbrev pub invariant-loop-i : goal.invariant-loop-i
invariant-loop-i l = (length l.out ≡ length l.initial.out) × (take (2 * l.i) l.out ≡ hex (take l.i l.bytes))
