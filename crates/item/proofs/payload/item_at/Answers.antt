-- `item::payload::item_at` meets its contract: the item is made of the numbers at its fields' offsets.
use mathlib.Core.Path.{sym, ◌∙◌}
use Rattle.rules.specs.Layouts.{layout_of, values}
use Rattle.rules.specs.Messages.{item_in}
use Rattle.item.specs.Patterns.{item_for}
use Rattle.fields.specs.Numbers.{number_one}
use Rattle.item.proofs.payload.item_at.Goals as goal

pub returns : goal.returns
unfolding item_in layout_of values
returns c = let p = c.args.p.now in
    c.made.ensures
    ∙ (λ i. item_for (record {
      param1 = c.u32_at.ensures i;
      param2 = c.u32_at-2.ensures i;
      param3 = c.u32_at-3.ensures i;
      param4 = c.u32_at-4.ensures i;
      x = c.u32_at-5.ensures i;
      y = c.u32_at-6.ensures i;
      z = c.u32_at-7.ensures i;
      seq = c.u16_at.ensures i;
      command = c.u16_at-2.ensures i;
      frame = sym (number_one 34 p) i;
      autocontinue = sym (number_one 36 p) i;
      kind = sym (number_one 37 p) i;
    }))
