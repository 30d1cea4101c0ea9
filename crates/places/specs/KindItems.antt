-- The stored items that a store, a kind and a half are: one of them, and the first n.
use Rattle.std.specs.Prelude.{ℕ, List}
use Rattle.rules.specs.Payload.{Bytes}
use Rattle.limits.specs.Kinds.{kind_number}
use Rattle.places.specs.Forms.{words, item_at, items_in}
use Rattle.places.specs.declared.items.Items.{Items}

abbrev pub item_with : Items → ℕ → Bytes
item_with items n = item_at words items.store.now items.half (kind_number items.kind) n

abbrev pub first_items : Items → ℕ → List Bytes
first_items items n = items_in words items.store.now items.half (kind_number items.kind) n
