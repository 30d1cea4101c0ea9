use Rattle.std.proofs.Common.{◌≡◌, ◌-◌}
use Rattle.limits.specs.Kinds.{kind_number}
use Rattle.places.specs.Forms.{words}
use Rattle.places.specs.Carried.{carried}
use Rattle.storage.proofs.carry_items.Given as goal

abbrev pub invariant-loop-i : goal.invariant-loop-i
invariant-loop-i l = l.store ≡ carried words l.initial.store l.half (kind_number l.kind) l.low (l.i - l.low)
