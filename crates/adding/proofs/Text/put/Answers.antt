-- `adding::Text::put` meets its contract: as much as there is room for stands behind the text.
use Rattle.std.specs.Prelude.{ℕ, List, ◌++◌, take}
use Rattle.std.proofs.Common.{arith, ap, refl, ◌∙◌}
use Rattle.std.proofs.lemmas.Grind.{common_steps}
use Rattle.std.proofs.lemmas.Slice.{take-put_mid}
use Rattle.adding.proofs.Text.put.Goals as goal

pub returns : goal.returns
returns c = let t = c.args.self.now in
    let new = c.copy_from_slice.new.self in
    record {
      same = refl;
      more_stands = record {
        text =
            take-put_mid t.len _ t.bytes.now new _ (omega arith) (omega arith)
            ∙ ap (λ (k : List ℕ). take t.len t.bytes.now ++ k)
            (c.copy_from_slice.ensures.after ∙ c.first-fits.ensures ∙ ap (λ (n : ℕ). take n c.args.more.now) c.room.ensures);
        left = grind (arith, common_steps);
      };
    }
