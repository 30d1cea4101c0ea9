use Rattle.std.proofs.Common.{◌≡◌, ◌≤◌}
use Rattle.places.specs.KindItems.{first_items}
use Rattle.places.specs.Stored.{with_command}
use Rattle.places.proofs.items.Items.with_command.Given as goal

abbrev pub invariant-loop-i : goal.invariant-loop-i
invariant-loop-i l = (l.count ≤ l.i) × (l.count ≡ with_command l.command (first_items l.self l.i))
