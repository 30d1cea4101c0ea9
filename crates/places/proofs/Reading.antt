-- The place of an item of a kind is in the store, and the numbers there are its fields.
use Rattle.std.proofs.Common.{◌≡◌, ◌∙◌, sym, ap, ℕ, ◌+◌, ◌%◌, ◌≤◌, ◌<◌, length, get_or, arith, add-zero, mod-eq_of_lt}
use Rattle.rules.specs.Limits.{size_of, item_words, clock_values}
use Rattle.rules.specs.Messages.{item_in}
use Rattle.rules.specs.Words.{last_word, command_in}
use Rattle.limits.specs.Kinds.{kind_number, kind_known}
use Rattle.places.specs.Part.{part, get_d_part}
use Rattle.places.specs.Forms.{words, offset_of, item_at}
use Rattle.places.specs.Places.{offset_within}
use Rattle.places.specs.KindItems.{item_with}
use Rattle.places.specs.Stored.{command_is, param1_is}
use Rattle.places.specs.declared.items.Items.{Items}
use Rattle.places.proofs.Lawful.{words_lawful}

module _ (items : Items) (n at : ℕ) (below : n < size_of (kind_number items.kind)) (place : at ≡ offset_of words items.half (kind_number items.kind) n) where
  pub in_store : at + item_words ≤ length items.store.now
  in_store = let whole = items.whole in
      omega (arith, place, whole, offset_within words words_lawful items.half (kind_number items.kind) n (kind_known items.kind) below)

  pub command_there : command_in (get_or items.store.now (at + last_word) 0) ≡ (item_in (item_with items n)).command
  unfolding item_at
  command_there = let first = offset_of words items.half (kind_number items.kind) n in
      let w = part items.store.now first item_words in
      sym (command_is w (kind_number items.kind) n ∙ ap command_in (get_d_part items.store.now first item_words last_word (omega arith) ∙ ap (λ (k : ℕ). get_or items.store.now (k + last_word) 0) (sym place)))

  pub param1_there : get_or items.store.now at 0 < clock_values → get_or items.store.now at 0 ≡ (item_in (item_with items n)).param1
  unfolding item_at
  param1_there small = let first = offset_of words items.half (kind_number items.kind) n in
      let w = part items.store.now first item_words in
      let word : get_or w 0 0 ≡ get_or items.store.now at 0 = get_d_part items.store.now first item_words 0 (omega arith) ∙ ap (λ (k : ℕ). get_or items.store.now k 0) (add-zero first ∙ sym place) in
      sym (param1_is w (kind_number items.kind) n ∙ ap (λ (k : ℕ). k % clock_values) word ∙ mod-eq_of_lt small)
