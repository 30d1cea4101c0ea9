use Rattle.std.proofs.Common.{◌≡◌}
use Rattle.rules.specs.Fence.{between, read_items}
use Rattle.places.specs.KindItems.{first_items}
use Rattle.fence.specs.FenceReading.{open_reading}
use Rattle.fence.proofs.read_items.Given as goal

abbrev pub invariant-loop-i : goal.invariant-loop-i
invariant-loop-i l = open_reading l.run ≡ read_items between (first_items l.items l.i)
