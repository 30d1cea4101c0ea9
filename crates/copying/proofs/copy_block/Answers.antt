-- `copying::copy_block` meets its contract: what the block took it gives.
use Prim.Native.Nat.{ℕ}
use mathlib.Core.Path.{ap, ◌∙◌}
use mathlib.Core.List.{List, []}
use lib.Seq.{paste}
use Rattle.copying.specs.Blocks.{block_bytes}
use Rattle.copying.proofs.Laws.{through_block}
use borrow.Author.Rules.{rules}
use Rattle.copying.proofs.copy_block.Goals as goal

pub returns : goal.returns
returns c = let a = c.args in
    c.copy-2.ensures
    ∙ ap (λ (l : List ℕ). paste a.out.now a.at l block_bytes) c.copy.ensures
    ∙ through_block block_bytes a.src.now a.out.now [] a.at (search rules)
