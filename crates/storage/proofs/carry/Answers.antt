-- Both places are in the store, and what is put to the one are the words at the other.
use Rattle.std.proofs.Common.{◌≡◌, ◌∙◌, ap, ap₂, List, Bool, not, ℕ, ◌*◌, arith}
use Rattle.rules.specs.Limits.{item_words}
use Rattle.limits.specs.Kinds.{kind_number, kind_known}
use Rattle.places.specs.Part.{part, put}
use Rattle.places.specs.Forms.{Store, words, place_of, offset_of}
use Rattle.places.specs.Places.{offset_within}
use Rattle.places.proofs.Lawful.{words_lawful}
use Rattle.places.specs.Carried.{carried_at}
use Rattle.storage.proofs.carry.Goals as goal

put_over : (store after : Store) (half : Bool) (kind n place to : ℕ) (item : List ℕ) → place ≡ place_of words half kind n → item ≡ part store (place * item_words) item_words
    → to ≡ offset_of words (not half) kind n → after ≡ put store to item → after ≡ carried_at words store half kind n
unfolding offset_of
put_over store after half kind n place to item there read other is = is ∙ ap₂ (put store) other (read ∙ ap (λ (k : ℕ). part store (k * item_words) item_words) there)

pub words_at-item-requires : goal.words_at-item-requires
unfolding offset_of
words_at-item-requires c = let a = c.args in
    omega (arith, ap (λ (k : ℕ). k * item_words) c.item_place.ensures, offset_within words words_lawful a.half (kind_number a.kind) a.n (kind_known a.kind) (omega arith))

pub put_item-requires : goal.put_item-requires
put_item-requires c = let a = c.args in
    omega (arith, c.place_at.ensures, offset_within words words_lawful (not a.half) (kind_number a.kind) a.n (kind_known a.kind) (omega arith))

pub returns : goal.returns
returns c = let a = c.args in
    put_over a.store.now _ a.half (kind_number a.kind) a.n c.item_place.result c.place_at.result c.words_at-item.result c.item_place.ensures c.words_at-item.ensures.there
    c.place_at.ensures c.put_item.ensures
