-- `script::record_in` meets its contract: each field is the number at its offset.
use lib.ListN.{get_or}
use Rattle.script.specs.Records.{record_in}
use Rattle.script.proofs.record_in.Goals as goal

pub returns : goal.returns
unfolding record_in
returns c = let p = c.args.bytes.now in
    λ i. record {
      kind = c.args.kind;
      b0 = get_or p 1 0;
      b1 = get_or p 2 0;
      b2 = get_or p 3 0;
      b3 = get_or p 4 0;
      b4 = get_or p 5 0;
      len = c.u16_at.ensures i;
      a = c.u32_at.ensures i;
      clock = c.u32_at-2.ensures i;
      store = c.u32_at-3.ensures i;
      reply = c.u32_at-4.ensures i;
    }
