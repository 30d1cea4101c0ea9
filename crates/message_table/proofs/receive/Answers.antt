-- `message_table::receive` meets its contract: the row of the id says whether it is read, and which of its own bytes are its head.
use Prim.Native.Nat.{ℕ}
use mathlib.Core.Path.{◌≡◌}
use lib.ListN.{get_or}
use borrow.Author.Rules.{rules}
use Rattle.std.specs.Prelude.{Option, None, Some, MatchOption}
use Rattle.rules.specs.Limits.{flight}
use Rattle.rules.specs.Payload.{Bytes}
use Rattle.message_table.specs.Table.{kind_in}
use Rattle.message_table.proofs.Rows.{received}
use Rattle.message_table.proofs.receive.Goals as goal

by_place : {P : ℕ → Type 0} (at : Option ℕ) (kind : ℕ) (b : Bytes) → MatchOption at (kind ≡ flight) P → ((n : ℕ) → P n → kind ≡ get_or b n 0) → kind ≡ kind_in b at
by_place None kind b m read = m
by_place (Some n) kind b m read = read n m

pub returns : goal.returns
returns c =
    let own : Bytes = c.own_bytes-own.result in
    let kind : c.map_or.result ≡ kind_in own c.in_ok-at.at.kind = by_place c.in_ok-at.at.kind c.map_or.result own c.map_or.ensures (λ n p. search (p, rules)) in
    received c.row_of.ensures c.in_ok-row.was c.in_ok-at.was c.own_bytes-own.ensures kind
