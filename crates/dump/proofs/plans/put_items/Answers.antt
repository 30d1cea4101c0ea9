-- `dump::plans::put_items` meets its contract, item by item.
use Rattle.std.proofs.Common.{◌≡◌, ◌-◌, arith}
use Rattle.dump.proofs.PlanWays.{no_items, items_more}
use Rattle.dump.proofs.plans.put_items.Goals as goal

pub loop-n-init : goal.loop-n-init
loop-n-init c = record { within = omega arith; lines = no_items _ _ _ _ _ _ _ (omega arith) }

pub loop-n-preserved : goal.loop-n-preserved
loop-n-preserved c =
    record {
      within = omega arith;
      lines =
          items_more _ _ _ _ _ _ _ _ _ _ _ _
          c.loop-n.auto.n c.place_at-place.ensures c.part.ensures (rw c.number-number.ensures at c.stored_item-bytes.ensures) c.loop-n.invariant.lines (rw c.number-number.ensures at c.put_item.ensures);
    }

pub returns : goal.returns
returns c = let all : c.args.to - c.args.from ≡ c.loop-n.n - c.args.from = omega arith in rw all c.loop-n.invariant.lines
