-- The move is refused, or the three plans are moved and every upload ends (`Ways`).
use Rattle.std.proofs.Common.{refl, rules}
use Rattle.plan.specs.View.{empty_plan}
use Rattle.moves.proofs.Ways.{not_moved, refused, facts, plans_in_range, moves}
use Rattle.moves.proofs.to_words.Goals as goal

pub returns-in-Err : goal.returns-in-Err
returns-in-Err c = let a = c.args in
    refused a.state a.old.now a.store.now _ _ c.ranged.ensures c.in-Err.ensures (not_moved c.in-Err.refusal)

pub move_plans-requires : goal.move_plans-requires
move_plans-requires c = let a = c.args in
    let go = facts a.state a.old.now a.store.now _ _ c.ranged.ensures c.in_default.ensures refl in
    (go.old_long, go.new_long, plans_in_range a.state a.old.now a.store.now _ _ c.ranged.ensures c.in_default.ensures refl)

pub returns : goal.returns
returns c = let a = c.args in
    let of = c.map.ensures.items in
    moves a.state a.old.now a.store.now _ _ c.ranged.ensures c.in_default.ensures refl
    _ _ of.long (λ i low. let h = of.at i empty_plan empty_plan low in search rules) c.move_plans.ensures
