-- `copying::copy_front` meets its contract: behind the first byte, each block is copied where the last one ended, and the last one ends at n.
use Prim.Native.Nat.{◌+◌, ◌*◌}
use native.Mathlib.Omega.{arith}
use Rattle.copying.specs.Blocks.{block_bytes}
use Rattle.copying.proofs.Laws.{one_more, the_last}
use Rattle.copying.proofs.copy_front.Goals as goal

pub returns-then-n-le-THIRD : goal.returns-then-n-le-THIRD
returns-then-n-le-THIRD c = let a = c.args in
    let src = a.src.now in
    let out = a.out.now in
    let first = one_more block_bytes src out 1 _ _ c.copy-2.ensures (omega arith) c.copy_block.ensures in
    the_last block_bytes src out (1 + block_bytes) _ _ first a.n (omega arith) (omega arith) (omega arith) (omega arith) c.copy_block-then-n-le-THIRD.ensures

pub returns-then-n-le-FOURTH : goal.returns-then-n-le-FOURTH
returns-then-n-le-FOURTH c = let a = c.args in
    let src = a.src.now in
    let out = a.out.now in
    let first = one_more block_bytes src out 1 _ _ c.copy-2.ensures (omega arith) c.copy_block.ensures in
    let second = one_more block_bytes src out (1 + block_bytes) _ _ first (omega arith) c.copy_block-2.ensures in
    the_last block_bytes src out (1 + 2 * block_bytes) _ _ second a.n (omega arith) (omega arith) (omega arith) (omega arith) c.copy_block-then-n-le-FOURTH.ensures

pub returns : goal.returns
returns c = let a = c.args in
    let src = a.src.now in
    let out = a.out.now in
    let first = one_more block_bytes src out 1 _ _ c.copy-2.ensures (omega arith) c.copy_block.ensures in
    let second = one_more block_bytes src out (1 + block_bytes) _ _ first (omega arith) c.copy_block-2.ensures in
    let third = one_more block_bytes src out (1 + 2 * block_bytes) _ _ second (omega arith) c.copy_block-3.ensures in
    the_last block_bytes src out (1 + 3 * block_bytes) _ _ third a.n (omega arith) (omega arith) (omega arith) (omega arith) c.copy_block-4.ensures
