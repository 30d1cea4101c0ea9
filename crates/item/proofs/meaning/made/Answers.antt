-- Field by field: what `float_of` and `signed_of` ensure, an i32 being read back from its bits as itself, and the patterns as they are.
use Rattle.std.proofs.Common.{◌∙◌, rules}
use Rattle.values.specs.Integers.{back_is}
use Rattle.item.proofs.meaning.made.Goals as goal

pub returns : goal.returns
returns c = let x = c.signed_of in
    let y = c.signed_of-2 in
    let a = c.args in
    λ i. record {
      param1 = c.float_of.ensures i;
      param2 = c.float_of-2.ensures i;
      param3 = c.float_of-3.ensures i;
      param4 = c.float_of-4.ensures i;
      z = c.float_of-5.ensures i;
      x = (back_is x.result (search rules) ∙ x.ensures) i;
      y = (back_is y.result (search rules) ∙ y.ensures) i;
      bits1 = a.bits1;
      bits2 = a.bits2;
      bits3 = a.bits3;
      bits4 = a.bits4;
      bits_x = a.bits_x;
      bits_y = a.bits_y;
      bits_z = a.bits_z;
      seq = a.seq;
      command = a.command;
      frame = a.frame;
      autocontinue = a.autocontinue;
      kind = a.kind;
    }
