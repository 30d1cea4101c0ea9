-- `text::numerals::put_numbers` meets its contract. The loop's invariant: the numbers so far are added.
use native.Mathlib.Omega.{arith}
use Rattle.adding.specs.Added.{each}
use Rattle.adding.specs.Laws.{adds_nothing, put_each_as}
use Rattle.text.specs.Digits.{after_space}
use Rattle.text.proofs.numerals.put_numbers.Goals as goal

pub loop-n-init : goal.loop-n-init
unfolding each
loop-n-init g c = adds_nothing _

pub loop-n-preserved : goal.loop-n-preserved
loop-n-preserved g c =
    put_each_as _ _ _ _ c.loop-n.n-index c.n-item.result (omega arith) (λ n. after_space (g.N.Number.number n)) c.n-item.result c.n-item.is c.loop-n.invariant (rw c.wide.ensures at c.put_after_space.ensures)
