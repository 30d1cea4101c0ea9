-- The item's place is in the store, the words put there are the item's, and its fields fit by their types, so it reads back.
use mathlib.Core.Path.{◌≡◌, ap, ◌∙◌}
use mathlib.Core.List.{[], ◌∷◌}
use mathlib.Core.Bool.{Bool}
use Prim.Native.Nat.{ℕ, ◌≤◌, ◌<◌}
use native.Mathlib.Omega.{arith}
use lib.ListN.{length}
use Rattle.rules.specs.Limits.{rally, size_of, store_words}
use Rattle.rules.specs.Layouts.{layout_of}
use Rattle.rules.specs.Messages.{Item, station, item_int, item_in}
use Rattle.rules.specs.Words.{last_word_of, words_of}
use Rattle.rule_laws.specs.Fitting.{Fits}
use Rattle.item.specs.Patterns.{patterns}
use Rattle.limits.specs.Kinds.{kind_number, kind_known}
use Rattle.places.specs.Part.{put}
use Rattle.places.specs.Forms.{Store, words, item_at, offset_of}
use Rattle.places.specs.Places.{offset_within, sizes_short}
use Rattle.places.proofs.Lawful.{words_lawful}
use Rattle.places.specs.Writes.{put_at}
use Rattle.storage.specs.Kept.{at_place, kept_fetched}
use borrow.Author.Rules.{rules}
use Rattle.storage.proofs.keep.Goals as goal

put_there : (store after : Store) (half : Bool) (kind n at last : ℕ) (i : Item) → store_words ≤ length store → kind ≤ rally → n < size_of kind
    → Fits (item_int (station 0 0) 0 i) → at ≡ offset_of words half kind n → last ≡ last_word_of i.command i.frame i.autocontinue
    → after ≡ put store at (i.param1 ∷ i.param2 ∷ i.param3 ∷ i.param4 ∷ i.x ∷ i.y ∷ i.z ∷ last ∷ [])
    → (after ≡ put_at words store half kind n (words_of i)) × (item_in (item_at words after half kind n) ≡ at_place kind n i)
put_there store after half kind n at last i long known below fits place ending is =
    let there : after ≡ put_at words store half kind n (words_of i) =
    is
    ∙ ap (λ (w : ℕ). put store at (i.param1 ∷ i.param2 ∷ i.param3 ∷ i.param4 ∷ i.x ∷ i.y ∷ i.z ∷ w ∷ [])) ending
    ∙ ap (λ (k : ℕ). put store k (words_of i)) place in
    (there, ap (λ (s : Store). item_in (item_at words s half kind n)) there ∙ kept_fetched i fits store half kind n long known below (omega (arith, sizes_short kind)))

pub put_item-requires : goal.put_item-requires
put_item-requires c = let a = c.args in
    omega (arith, offset_within words words_lawful a.half (kind_number a.kind) a.n (kind_known a.kind) (search rules))

pub returns : goal.returns
unfolding layout_of
returns c =
    let a = c.args in
    -- what the struct's type says of its numbers
    let fits : Fits (item_int (station 0 0) 0 (patterns a.item)) = search rules in
    put_there a.store.now _ a.half (kind_number a.kind) a.n c.place_at.result _ (patterns a.item) (search rules) (kind_known a.kind) (search rules)
    fits c.place_at.ensures c.last_word-last.ensures c.put_item.ensures
