-- `wire::read::read_ack` meets its contract: the message's own bytes decode as its struct says.
use Prim.Native.Nat.{ℕ}
use mathlib.Core.Path.{◌≡◌, sym}
use lib.ListN.{get_or}
use Rattle.rules.specs.Payload.{Bytes, number_at}
use Rattle.rules.specs.Layouts.{layout_of, values, ack_id}
use Rattle.rules.specs.Messages.{station, ack, message_of, decode}
use Rattle.fields.specs.Numbers.{number_one}
use borrow.Author.Rules.{rules}
use Rattle.wire.proofs.read.read_ack.Goals as goal

-- each field is the number at its offset
from_own : (own : Bytes) (number : ℕ) → number ≡ number_at 4 4 own → ack (station (get_or own 0 0) (get_or own 1 0)) (get_or own 2 0) (get_or own 3 0) number ≡ decode ack_id own
unfolding decode message_of layout_of values
from_own own number is_number = λ i. ack (station (sym (number_one 0 own) i) (sym (number_one 1 own) i)) (sym (number_one 2 own) i) (sym (number_one 3 own) i) (is_number i)

pub returns : goal.returns
returns c = search (from_own, rules)
