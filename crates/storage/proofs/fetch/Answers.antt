-- The item's place is in the store, and the part of the store that is read is the item: its words are below 2^32 by their type.
use Rattle.std.proofs.Common.{◌≡◌, sym, ap, ◌∙◌, ℕ, ◌*◌, ◌<◌, get_or, List, arith}
use Rattle.rules.specs.Limits.{size_of, item_words, clock_values}
use Rattle.rules.specs.Messages.{item_in}
use Rattle.rules.specs.Words.{item_of_words}
use Rattle.rule_laws.specs.Words.{words_read}
use Rattle.limits.specs.Kinds.{kind_number, kind_known}
use Rattle.item.specs.declared.Item.{Item}
use Rattle.item.specs.Patterns.{item_for}
use Rattle.places.specs.Part.{part}
use Rattle.places.specs.Forms.{words, place_of, offset_of, item_at}
use Rattle.places.specs.Places.{sizes_short}
use Rattle.places.specs.KindItems.{item_with}
use Rattle.places.specs.declared.items.Items.{Items}
use Rattle.places.proofs.Reading.{in_store}
use Rattle.storage.proofs.fetch.Goals as goal

read_there : (items : Items) (n at kind : ℕ) (stored : List ℕ) (i : Item) → ((j : ℕ) → get_or stored j 0 < clock_values) → n < size_of (kind_number items.kind)
    → at ≡ place_of words items.half (kind_number items.kind) n → stored ≡ part items.store.now (at * item_words) item_words → kind ≡ kind_number items.kind → i ≡ item_for (item_of_words stored kind n)
    → i ≡ item_for (item_in (item_with items n))
unfolding item_at offset_of
read_there items n at number stored i small below place read same is =
    let kind = kind_number items.kind in
    let first = offset_of words items.half kind n in
    let there : stored ≡ part items.store.now first item_words = read ∙ ap (λ (k : ℕ). part items.store.now (k * item_words) item_words) place in
    is
    ∙ ap (λ (k : ℕ). item_for (item_of_words stored k n)) same
    ∙ ap item_for (sym (words_read stored kind n small (omega (arith, kind_known items.kind)) (omega (arith, sizes_short kind))))
    ∙ ap (λ (w : List ℕ). item_for (item_in (words.stored w kind n))) there

pub words_at-stored-requires : goal.words_at-stored-requires
unfolding offset_of
words_at-stored-requires c = in_store c.args.items c.args.n (c.item_place.result * item_words) c.requires (ap (λ (k : ℕ). k * item_words) c.item_place.ensures)

pub returns : goal.returns
returns c = let a = c.args in
    read_there a.items a.n c.item_place.result c.number.result c.words_at-stored.result c.from_words.result c.words_at-stored.ensures.small c.requires
    c.item_place.ensures c.words_at-stored.ensures.there c.number.ensures c.from_words.ensures
