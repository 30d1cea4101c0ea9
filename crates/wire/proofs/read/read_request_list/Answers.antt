-- `wire::read::read_request_list` meets its contract: the message's own bytes decode as its struct says.
use mathlib.Core.Path.{◌≡◌, sym}
use lib.ListN.{get_or}
use Rattle.rules.specs.Payload.{Bytes}
use Rattle.rules.specs.Layouts.{layout_of, values, request_list_id}
use Rattle.rules.specs.Messages.{station, request_list, message_of, decode}
use Rattle.fields.specs.Numbers.{number_one}
use borrow.Author.Rules.{rules}
use Rattle.wire.proofs.read.read_request_list.Goals as goal

-- each field is the number at its offset
from_own : (own : Bytes) → request_list (station (get_or own 0 0) (get_or own 1 0)) (get_or own 2 0) ≡ decode request_list_id own
unfolding decode message_of layout_of values
from_own own = λ i. request_list (station (sym (number_one 0 own) i) (sym (number_one 1 own) i)) (sym (number_one 2 own) i)

pub returns : goal.returns
returns c = search (from_own, rules)
