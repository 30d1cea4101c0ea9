-- The item struct and the rules' item, which has the 32-bit patterns alone.
use Rattle.std.specs.Prelude.{ℕ, ◌≡◌}
use Rattle.std.proofs.Common.{sym, ap, ◌∙◌}
use Rattle.rules.specs.Messages as rules
use Rattle.rules.specs.Values.{float, signed}
use Rattle.item.specs.declared.Item.{Item}

-- what the struct keeps of an item, "bit for bit, NaN included"
abbrev pub patterns : Item → rules.Item
patterns item =
    record {
      param1 = item.bits1;
      param2 = item.bits2;
      param3 = item.bits3;
      param4 = item.bits4;
      x = item.bits_x;
      y = item.bits_y;
      z = item.bits_z;
      seq = item.seq;
      command = item.command;
      frame = item.frame;
      autocontinue = item.autocontinue;
      kind = item.kind;
    }

-- "x and y are signed 32-bit, params and z are 32-bit floats": the struct of an item, with its values beside its patterns
abbrev pub item_for : rules.Item → Item
item_for i =
    record {
      param1 = float i.param1;
      param2 = float i.param2;
      param3 = float i.param3;
      param4 = float i.param4;
      z = float i.z;
      x = signed i.x;
      y = signed i.y;
      bits1 = i.param1;
      bits2 = i.param2;
      bits3 = i.param3;
      bits4 = i.param4;
      bits_x = i.x;
      bits_y = i.y;
      bits_z = i.z;
      seq = i.seq;
      command = i.command;
      frame = i.frame;
      autocontinue = i.autocontinue;
      kind = i.kind;
    }

-- the rules' item of these patterns and numbers
abbrev pub item_with : (param1 param2 param3 param4 x y z seq command frame autocontinue kind : ℕ) → rules.Item
item_with param1 param2 param3 param4 x y z seq command frame autocontinue kind =
    record {
      param1 = param1;
      param2 = param2;
      param3 = param3;
      param4 = param4;
      x = x;
      y = y;
      z = z;
      seq = seq;
      command = command;
      frame = frame;
      autocontinue = autocontinue;
      kind = kind;
    }

-- ---- the struct of an item keeps the item, and has its values: what a ReadItem tells

pub patterns_of : {item : Item} {i : rules.Item} → item ≡ item_for i → patterns item ≡ i
patterns_of e = ap patterns e

pub values_of : {item : Item} {i : rules.Item} → item ≡ item_for i → item ≡ item_for (patterns item)
values_of e = e ∙ ap item_for (sym (patterns_of e))
