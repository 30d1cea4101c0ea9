use lib.ListN.{take}
use Rattle.adding.specs.Added.{Adds}
use Rattle.text.specs.Digits.{hex}
use Rattle.text.proofs.numerals.put_hex.Given as goal

abbrev pub invariant-loop-byte : goal.invariant-loop-byte
invariant-loop-byte l = Adds (hex (take l.byte-index l.bytes)) l.initial.text l.text
