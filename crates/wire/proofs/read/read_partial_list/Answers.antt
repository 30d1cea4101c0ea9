-- `wire::read::read_partial_list` meets its contract: the message's own bytes decode as its struct says.
use Prim.Native.Nat.{ℕ}
use mathlib.Core.Path.{◌≡◌, sym}
use lib.ListN.{get_or}
use Rattle.rules.specs.Payload.{Bytes, number_at}
use Rattle.rules.specs.Layouts.{layout_of, values, partial_list_id}
use Rattle.rules.specs.Messages.{station, partial_list, message_of, decode}
use Rattle.fields.specs.Numbers.{number_one}
use borrow.Author.Rules.{rules}
use Rattle.wire.proofs.read.read_partial_list.Goals as goal

-- each field is the number at its offset
from_own : (own : Bytes) (start end : ℕ) → start ≡ number_at 2 0 own → end ≡ number_at 2 2 own → partial_list (station (get_or own 4 0) (get_or own 5 0)) start end (get_or own 6 0) ≡ decode partial_list_id own
unfolding decode message_of layout_of values
from_own own start end is-start is-end = λ i. partial_list (station (sym (number_one 4 own) i) (sym (number_one 5 own) i)) (is-start i) (is-end i) (sym (number_one 6 own) i)

pub returns : goal.returns
returns c = search (from_own, rules)
