use mathlib.Core.Path.{◌≡◌}
use lib.ListN.{length}
use lib.Seq.{paste}
use Rattle.rules.specs.Limits.{item_words}
use Rattle.places.proofs.put_item.Given as goal

abbrev pub invariant-loop-i : goal.invariant-loop-i
invariant-loop-i l = (length l.item ≡ item_words) × (l.store ≡ paste l.initial.store l.at l.item l.i)
