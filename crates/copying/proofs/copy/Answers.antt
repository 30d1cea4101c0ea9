-- `copying::copy` meets its contract. The loop's invariant: the first i bytes are copied, and nothing else changed.
use Prim.Native.Nat.{ℕ, ◌+◌}
use mathlib.Core.Path.{refl, sym, ap, ◌∙◌}
use mathlib.Core.List.{List}
use native.Mathlib.Numerals.{add-one}
use native.Mathlib.Omega.{arith}
use lib.ListN.{get_or, set, length-set}
use lib.Seq.{paste, paste-zero, paste-suc}
use Rattle.copying.proofs.copy.Goals as goal

pub loop-i-init : goal.loop-i-init
loop-i-init c = (paste-zero c.args.out.now c.args.at c.args.src.now, refl)

pub loop-i-preserved : goal.loop-i-preserved
loop-i-preserved c = let a = c.args in
    let i = c.loop-i.i in
    let b = get_or a.src.now i 0 in (
      ap (λ (l : List ℕ). set l (a.at + i) b) c.loop-i.invariant.0
          ∙ paste-suc a.out.now a.at a.src.now i 0 (omega arith) (omega arith)
          ∙ ap (λ (k : ℕ). paste a.out.now a.at a.src.now k) (sym (add-one i)),
      length-set c.loop-i.out (a.at + i) b ∙ c.loop-i.invariant.1,
    )

pub shape_of-out : goal.shape_of-out
shape_of-out c = c.loop-i.invariant.1
