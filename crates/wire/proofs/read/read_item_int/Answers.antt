-- `wire::read::read_item_int` meets its contract: the message's own bytes decode as its struct says.
use mathlib.Core.Path.{◌≡◌, sym}
use lib.ListN.{get_or}
use Rattle.rules.specs.Payload.{Bytes}
use Rattle.rules.specs.Layouts.{layout_of, values, item_int_id}
use Rattle.rules.specs.Messages.{station, item_int, message_of, decode, item_in}
use Rattle.item.specs.declared.Item.{Item}
use Rattle.item.specs.Patterns.{item_for, patterns, patterns_of, values_of}
use Rattle.fields.specs.Numbers.{number_one}
use borrow.Author.Rules.{rules}
use Rattle.wire.proofs.read.read_item_int.Goals as goal

-- each field is the number at its offset, and the item is made of its patterns
from_own : (own : Bytes) (item : Item) → item ≡ item_for (item_in own)
    → (item_int (station (get_or own 32 0) (get_or own 33 0)) (get_or own 35 0) (patterns item) ≡ decode item_int_id own) × (item ≡ item_for (patterns item))
unfolding decode message_of layout_of values item_in
from_own own item made =
    (λ i. item_int (station (sym (number_one 32 own) i) (sym (number_one 33 own) i)) (sym (number_one 35 own) i) (patterns_of made i), values_of made)

pub returns : goal.returns
returns c = search (from_own, rules)
