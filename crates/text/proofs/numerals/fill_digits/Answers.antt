-- `text::numerals::fill_digits` meets its contract. The loop's invariant: the digits of the first i bytes are made.
use Rattle.std.proofs.Common.{◌∙◌, ap, sym, refl, ◌*◌, take_all, arith, length-set}
use Rattle.adding.specs.Added.{each}
use Rattle.text.specs.Digits.{hex}
use Rattle.text.specs.Numbers.{hex_made}
use Rattle.text.proofs.numerals.fill_digits.Goals as goal

pub loop-i-init : goal.loop-i-init
unfolding each
loop-i-init c = (refl, refl)

pub loop-i-preserved : goal.loop-i-preserved
loop-i-preserved c = (
  length-set _ _ _ ∙ length-set c.loop-i.out _ _ ∙ c.loop-i.invariant.0,
  hex_made c.args.bytes.now c.loop-i.out c.loop-i.i _ _ (omega arith) (omega arith) c.digit.ensures c.digit-in-loop-i.ensures c.loop-i.invariant.1,
)

pub returns : goal.returns
returns c =
    sym (take_all (2 * c.loop-i.i) c.loop-i.out (omega arith))
    ∙ c.loop-i.invariant.1
    ∙ ap hex (take_all c.loop-i.i c.args.bytes.now (omega arith))
