-- The reading of a fence as the code holds it, item by item as the rules read it.
use Rattle.std.specs.Prelude.{◌≡◌, refl, List, [], ◌∷◌, ◌++◌, cond, ◌&&◌, ◌||◌, ℕ, ◌-◌, eqb, Option, Some, None, Result, Ok, Err}
use Rattle.std.specs.Int.NonZero.{non_zero_u32_get}
use Rattle.rules.specs.Payload.{Bytes}
use Rattle.rules.specs.Messages.{Item, item_in}
use Rattle.rules.specs.Items.{inclusion_vertex, exclusion_vertex}
use Rattle.rules.specs.Fence.{between, broken, inside, run_with, read_item, read_items, vertices_of}
use Rattle.rules.specs.Fence as rules
use Rattle.fence.specs.declared.OpenRun.{OpenRun}
use Rattle.fence.specs.declared.Broken.{Broken}

-- the reading between runs, or with one open
abbrev pub open_reading : Option OpenRun → rules.Reading
open_reading None = between
open_reading (Some r) = inside (non_zero_u32_get r.left) r.command r.vertices

-- the reading that a result stands for
abbrev pub reading_of : Result (Option OpenRun) Broken → rules.Reading
reading_of (Ok run) = open_reading run
reading_of (Err b) = broken

-- `read_item` over the two numbers of an item that it goes by
unfoldable pub read_as : rules.Reading → (command m : ℕ) → rules.Reading
read_as between command m =
    cond (eqb command inclusion_vertex || eqb command exclusion_vertex) (cond (eqb m 0) broken (run_with (m - 1) command m)) between
read_as (inside left first run) command m =
    cond ((eqb command inclusion_vertex || eqb command exclusion_vertex) && eqb command first && eqb m run) (run_with (left - 1) first run) broken
read_as broken command m = broken

read_is : (r : rules.Reading) (item : Item) → read_item r item ≡ read_as r item.command (vertices_of item)
unfolding read_item read_as
read_is between item = refl
read_is (inside left first run) item = refl
read_is broken item = refl

pub reads_more : (r : rules.Reading) (items : List Bytes) (b : Bytes)
    → read_items r (items ++ (b ∷ [])) ≡ read_as (read_items r items) (item_in b).command (vertices_of (item_in b))
unfolding read_items
reads_more r [] b = read_is r (item_in b)
reads_more r (a ∷ items) b = reads_more (read_item r (item_in a)) items b
