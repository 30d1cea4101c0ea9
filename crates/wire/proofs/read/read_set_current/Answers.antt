-- `wire::read::read_set_current` meets its contract: the message's own bytes decode as its struct says.
use Prim.Native.Nat.{ℕ}
use mathlib.Core.Path.{◌≡◌, sym}
use lib.ListN.{get_or}
use Rattle.rules.specs.Payload.{Bytes, number_at}
use Rattle.rules.specs.Layouts.{layout_of, values, set_current_id}
use Rattle.rules.specs.Messages.{station, set_current, message_of, decode}
use Rattle.fields.specs.Numbers.{number_one}
use borrow.Author.Rules.{rules}
use Rattle.wire.proofs.read.read_set_current.Goals as goal

-- each field is the number at its offset
from_own : (own : Bytes) (seq : ℕ) → seq ≡ number_at 2 0 own → set_current (station (get_or own 2 0) (get_or own 3 0)) seq ≡ decode set_current_id own
unfolding decode message_of layout_of values
from_own own seq is-seq = λ i. set_current (station (sym (number_one 2 own) i) (sym (number_one 3 own) i)) (is-seq i)

pub returns : goal.returns
returns c = search (from_own, rules)
