-- `wire::read::read_clear_all` meets its contract: the message's own bytes decode as its struct says.
use mathlib.Core.Path.{◌≡◌, sym}
use lib.ListN.{get_or}
use Rattle.rules.specs.Payload.{Bytes}
use Rattle.rules.specs.Layouts.{layout_of, values, clear_all_id}
use Rattle.rules.specs.Messages.{station, clear_all, message_of, decode}
use Rattle.fields.specs.Numbers.{number_one}
use borrow.Author.Rules.{rules}
use Rattle.wire.proofs.read.read_clear_all.Goals as goal

-- each field is the number at its offset
from_own : (own : Bytes) → clear_all (station (get_or own 0 0) (get_or own 1 0)) (get_or own 2 0) ≡ decode clear_all_id own
unfolding decode message_of layout_of values
from_own own = λ i. clear_all (station (sym (number_one 0 own) i) (sym (number_one 1 own) i)) (sym (number_one 2 own) i)

pub returns : goal.returns
returns c = search (from_own, rules)
