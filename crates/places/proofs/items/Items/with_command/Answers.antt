-- The count is that of the items passed: one more item adds one exactly if it has the command.
use Rattle.std.proofs.Common.{◌≡◌, refl, ◌∙◌, ℕ, suc, ◌+◌, cond, eqb, arith, add-one, eq-eqb, ne_eqb}
use Rattle.rules.specs.Messages.{item_in}
use Rattle.places.specs.Forms.{items_in}
use Rattle.places.specs.KindItems.{item_with, first_items}
use Rattle.places.specs.Stored.{with_command, with_more}
use Rattle.places.specs.declared.items.Items.{Items}
use Rattle.places.proofs.items.Items.with_command.Goals as goal
use Rattle.places.proofs.items.Items.with_command.Goals.{then-command, else-command}

-- a turn of the loop, with the callee's answer as a variable
counted : (items : Items) (command i count found : ℕ) → count ≡ with_command command (first_items items i) → found ≡ (item_in (item_with items i)).command
    → cond (eqb found command) (suc count) count ≡ with_command command (first_items items (i + 1))
unfolding items_in
counted items command i count found before read =
    rw (add-one i, with_more command (first_items items i) (item_with items i), read, before)

pub loop-i-init : goal.loop-i-init
unfolding items_in with_command
loop-i-init c = (omega arith, refl)

pub loop-i-preserved : goal.loop-i-preserved
loop-i-preserved c = let a = c.args in
    let l = c.loop-i in
    let turn = counted a.self a.command l.i l.count c.command.result l.invariant.1 c.command.ensures in (
      elim c.if-command.branch [ then-command w ↦ omega arith | else-command w ↦ omega arith ],
      elim c.if-command.branch [
        | then-command w ↦ w.count-is ∙ add-one l.count ∙ (rw (eq-eqb c.command.result a.command w.if-command.true) at turn)
        | else-command w ↦ w.count-is ∙ (rw (ne_eqb c.command.result a.command w.if-command.false) at turn)
      ],
    )
