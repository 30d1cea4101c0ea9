-- `text::numerals::put_hex` meets its contract. The loop's invariant: the digits of the bytes so far are added.
use mathlib.Core.Path.{sym}
use native.Mathlib.Omega.{arith}
use Rattle.adding.specs.Added.{each}
use Rattle.adding.specs.Laws.{adds_nothing, put_each_more}
use Rattle.text.specs.Digits.{two_digits}
use Rattle.text.proofs.numerals.put_hex.Goals as goal

pub loop-byte-init : goal.loop-byte-init
unfolding each
loop-byte-init c = adds_nothing _

pub loop-byte-preserved : goal.loop-byte-preserved
loop-byte-preserved c =
    put_each_more _ _ _ _ c.loop-byte.byte-index 0 (omega arith) two_digits c.loop-byte.invariant
    (rw (sym c.digit.ensures, sym c.digit-in-loop-byte.ensures) c.put_two.ensures)
