use lib.ListN.{take}
use Rattle.adding.specs.Added.{Adds, each}
use Rattle.text.specs.Digits.{after_space}
use Rattle.text.proofs.numerals.put_numbers.Given as goal

abbrev pub invariant-loop-n : goal.invariant-loop-n
invariant-loop-n g l = Adds (each (λ n. after_space (g.N.Number.number n)) (take l.n-index l.list)) l.initial.text l.text
