-- The lines of the items before number n are added.
use Rattle.std.proofs.Common.{◌-◌, ◌≤◌}
use Rattle.limits.specs.Kinds.{kind_number}
use Rattle.adding.specs.Added.{Adds}
use Rattle.dump.specs.Plans.{item_lines}
use Rattle.dump.proofs.plans.put_items.Given as goal

abbrev pub invariant-loop-n : goal.invariant-loop-n
invariant-loop-n l =
    record {
      within : l.n - l.from ≤ l.to - l.from;
      lines : Adds (item_lines l.letter (kind_number l.kind) l.half l.store l.from (l.n - l.from)) l.initial.text l.text;
    }
