-- The items in the lines of one kind.
use Rattle.std.proofs.Common.{◌≡◌, ap, ◌∙◌, ℕ, suc, ◌+◌, ◌-◌, ◌≤◌, Bool, List, [], ◌∷◌, get_or, take, drop, arith}
use Rattle.rules.specs.Limits.{item_words}
use Rattle.rules.specs.Messages.{station, item_int, encode, item_of}
use Rattle.rules.specs.Messages as rules
use Rattle.rules.specs.Words.{item_of_words}
use Rattle.fields.specs.Packed.{BytesOf}
use Rattle.item.specs.declared.Item.{Item}
use Rattle.item.specs.Patterns.{patterns, item_for, patterns_of}
use Rattle.places.specs.Part.{part}
use Rattle.places.specs.Forms.{Store, words, offset_of, item_at}
use Rattle.adding.specs.declared.Text.{Text}
use Rattle.adding.specs.Added.{Adds}
use Rattle.adding.specs.Laws.{adds_both, adds_nothing}
use Rattle.dump.specs.Plans.{item_line, item_lines}

-- of eight words that are those of a list, the item is the list's
pub item_read
    : (stored words : List ℕ) (kind n : ℕ) (item : Item) (bytes : List ℕ)
    → get_or stored 0 0 ≡ get_or words 0 0
    → get_or stored 1 0 ≡ get_or words 1 0
    → get_or stored 2 0 ≡ get_or words 2 0
    → get_or stored 3 0 ≡ get_or words 3 0
    → get_or stored 4 0 ≡ get_or words 4 0
    → get_or stored 5 0 ≡ get_or words 5 0
    → get_or stored 6 0 ≡ get_or words 6 0
    → get_or stored 7 0 ≡ get_or words 7 0
    → item ≡ item_for (item_of_words stored kind n)
    → BytesOf (item_int (station 0 0) 0 (patterns item)) bytes
    → bytes ≡ item_of (item_of_words words kind n)
unfolding item_of
item_read stored words kind n item bytes e0 e1 e2 e3 e4 e5 e6 e7 is made =
    let same : item_of_words stored kind n ≡ item_of_words words kind n =
    λ i. item_of_words (e0 i ∷ e1 i ∷ e2 i ∷ e3 i ∷ e4 i ∷ e5 i ∷ e6 i ∷ e7 i ∷ []) kind n in
    made.all ∙ ap (λ (i : rules.Item). encode (item_int (station 0 0) 0 i)) (patterns_of is ∙ same)

-- the lines of the items from a number on: those of none, of one more, of all

module _ (letter kind : ℕ) (half : Bool) (store : Store) (from n : ℕ) where
  pub no_items : (before : Text) → n ≤ from → Adds (item_lines letter kind half store from (n - from)) before before
  unfolding item_lines
  no_items before h = let none : n - from ≡ 0 = omega arith in rw none (adds_nothing before)

  pub items_more
      : (place : ℕ) (stored bytes : List ℕ) (before between after : Text)
      → from ≤ n
      → place ≡ offset_of words half kind n
      → stored ≡ take item_words (drop place store)
      → bytes ≡ item_of (item_of_words stored kind n)
      → Adds (item_lines letter kind half store from (n - from)) before between
      → Adds (item_line letter kind n bytes) between after
      → Adds (item_lines letter kind half store from (n + 1 - from)) before after
  unfolding item_lines item_at part
  items_more place stored bytes before between after on stands is item a b =
      let more : n + 1 - from ≡ suc (n - from) = omega arith in
      let number : from + (n - from) ≡ n = omega arith in
      rw (more, number, ← stands, ← is, ← item) (adds_both a b)
