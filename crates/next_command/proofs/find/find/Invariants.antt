use Prim.Native.Nat.{◌-◌, ◌≤◌}
use mathlib.Core.Path.{◌≡◌}
use Rattle.rules.specs.Limits.{flight, size_of, max_followed}
use Rattle.rules.specs.NextCommand as rules
use Rattle.plan_search.specs.PlanItems.{flight_items}
use Rattle.next_command.proofs.find.find.Given as goal

abbrev pub invariant-loop : goal.invariant-loop
invariant-loop l =
    let p = l.plan in
    let items = flight_items p in
    record {
      inside : l.n ≤ size_of flight;
      same : rules.search p.home max_followed items l.initial.runs l.from ≡ rules.search p.home (max_followed - l.counter) items l.runs l.n;
    }
