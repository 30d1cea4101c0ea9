-- `wire::read::read_count` meets its contract: the message's own bytes decode as its struct says.
use Prim.Native.Nat.{ℕ}
use mathlib.Core.Path.{◌≡◌, sym}
use lib.ListN.{get_or}
use Rattle.rules.specs.Payload.{Bytes, number_at}
use Rattle.rules.specs.Layouts.{layout_of, values, count_id}
use Rattle.rules.specs.Messages.{station, count, message_of, decode}
use Rattle.fields.specs.Numbers.{number_one}
use borrow.Author.Rules.{rules}
use Rattle.wire.proofs.read.read_count.Goals as goal

-- each field is the number at its offset
from_own : (own : Bytes) (n number : ℕ) → n ≡ number_at 2 0 own → number ≡ number_at 4 5 own → count (station (get_or own 2 0) (get_or own 3 0)) n (get_or own 4 0) number ≡ decode count_id own
unfolding decode message_of layout_of values
from_own own n number is-n is_number = λ i. count (station (sym (number_one 2 own) i) (sym (number_one 3 own) i)) (is-n i) (sym (number_one 4 own) i) (is_number i)

pub returns : goal.returns
returns c = search (from_own, rules)
