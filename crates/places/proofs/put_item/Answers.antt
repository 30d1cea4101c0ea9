-- The loop's invariant: the first i words are in place of the store's (`paste`).
use mathlib.Core.Path.{◌≡◌, ◌∙◌, sym, ap}
use mathlib.Core.List.{List, ◌++◌}
use Prim.Native.Nat.{ℕ, ◌+◌}
use native.Mathlib.Omega.{arith}
use native.Mathlib.Numerals.{add-one}
use borrow.Author.Rules.{rules}
use lib.ListN.{set, take, drop, length, get_or}
use lib.Seq.{paste, paste-zero, paste-suc, length-paste, take-length}
use Rattle.places.specs.Part.{put}
use Rattle.places.proofs.put_item.Goals as goal

pub loop-i-init : goal.loop-i-init
loop-i-init c = (search rules, paste-zero c.args.store.now c.args.at c.args.item)

pub bounds-store-at : goal.bounds-store-at
bounds-store-at c = let a = c.args in
    let l = c.loop-i in
    omega (arith, ap length l.invariant.1, length-paste a.store.now a.at a.item l.i (omega arith) (omega arith))

pub loop-i-preserved : goal.loop-i-preserved
loop-i-preserved c = let a = c.args in
    let l = c.loop-i in (
      l.invariant.0,
      ap (λ (s : List ℕ). set s (a.at + l.i) (get_or a.item l.i 0)) l.invariant.1
          ∙ paste-suc a.store.now a.at a.item l.i 0 (omega arith) (omega arith)
          ∙ ap (paste a.store.now a.at a.item) (sym (add-one l.i)),
    )

pub shape_of-store : goal.shape_of-store
shape_of-store c = let a = c.args in
    let l = c.loop-i in
    ap length l.invariant.1 ∙ length-paste a.store.now a.at a.item l.i (omega arith) (omega arith)

pub returns : goal.returns
unfolding put
returns c = let a = c.args in
    let l = c.loop-i in
    let all : l.i ≡ length a.item = omega arith in
    l.invariant.1
    ∙ ap (paste a.store.now a.at a.item) all
    ∙ ap (λ (v : List ℕ). take a.at a.store.now ++ v ++ drop (a.at + length a.item) a.store.now) (take-length a.item)
