-- The items below i are carried.
use Rattle.std.proofs.Common.{◌≡◌, ◌∙◌, ap, Bool, ℕ, suc, ◌≤◌, ◌-◌, ◌+◌, arith, length}
use Rattle.rules.specs.Limits.{rally, size_of, store_words}
use Rattle.limits.specs.Kinds.{kind_number}
use Rattle.places.specs.Forms.{Store, words}
use Rattle.places.proofs.Lawful.{words_lawful}
use Rattle.places.specs.Carried.{carried_at, carried, carried_leaves}
use Rattle.storage.proofs.carry_items.Goals as goal

-- a turn of the loop
one_more : (store before after : Store) (half : Bool) (kind low i : ℕ) → low ≤ i → before ≡ carried words store half kind low (i - low)
    → after ≡ carried_at words before half kind i → after ≡ carried words store half kind low (i + 1 - low)
unfolding carried
one_more store before after half kind low i from earlier is =
    is
    ∙ ap (λ (s : Store). carried_at words s half kind i) earlier
    ∙ ap (carried_at words (carried words store half kind low (i - low)) half kind) (let e : i ≡ low + (i - low) = omega arith in e)
    ∙ ap (carried words store half kind low) (let e : suc (i - low) ≡ i + 1 - low = omega arith in e)

carried_long : (store : Store) (half : Bool) (kind low i : ℕ) → store_words ≤ length store → kind ≤ rally → low ≤ i → i ≤ size_of kind
    → length (carried words store half kind low (i - low)) ≡ length store
carried_long store half kind low i long known from upto = (carried_leaves words words_lawful half kind known store long low (i - low) (omega arith)).long

pub loop-i-init : goal.loop-i-init
unfolding carried
loop-i-init c = let a = c.args in
    ap (carried words a.store.now a.half (kind_number a.kind) a.low) (let e : 0 ≡ a.low - a.low = omega arith in e)

pub loop-i-preserved : goal.loop-i-preserved
loop-i-preserved c = let a = c.args in
    let l = c.loop-i in
    one_more a.store.now l.store _ a.half (kind_number a.kind) a.low l.i (omega arith) l.invariant c.carry.ensures
