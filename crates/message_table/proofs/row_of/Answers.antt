-- `message_table::row_of` meets its contract: each arm is the row of its id, and an id that has no arm has no row.
use mathlib.Core.Path.{refl}
use lib.Dec.{lit<}
use borrow.Author.Rules.{rules}
use Rattle.rules.specs.Layouts.{layout_of, values}
use Rattle.rules.specs.Messages.{message_of, decode}
use Rattle.message_table.proofs.Rows.{found, missed, heads, heads_no_kind}
use Rattle.message_table.proofs.row_of.Goals as goal

pub returns-in-38 : goal.returns-in-38
unfolding layout_of decode message_of values
returns-in-38 c = found c.in-38.is c.read.ensures (record { full = refl; read = λ p. refl; head = heads _ _; within = record { target = lit< tt; kind = lit< tt } })

pub returns-in-41 : goal.returns-in-41
unfolding layout_of decode message_of values
returns-in-41 c = found c.in-41.is c.read-in-41.ensures (record { full = refl; read = λ p. refl; head = heads_no_kind _; within = record { target = lit< tt; kind = tt } })

pub returns-in-42 : goal.returns-in-42
unfolding layout_of decode message_of values
returns-in-42 c = found c.in-42.is c.only_written.ensures (record { full = refl; read = λ p. refl; head = tt; within = tt })

pub returns-in-43 : goal.returns-in-43
unfolding layout_of decode message_of values
returns-in-43 c = found c.in-43.is c.read-in-43.ensures (record { full = refl; read = λ p. refl; head = heads _ _; within = record { target = lit< tt; kind = lit< tt } })

pub returns-in-44 : goal.returns-in-44
unfolding layout_of decode message_of values
returns-in-44 c = found c.in-44.is c.read-in-44.ensures (record { full = refl; read = λ p. refl; head = heads _ _; within = record { target = lit< tt; kind = lit< tt } })

pub returns-in-45 : goal.returns-in-45
unfolding layout_of decode message_of values
returns-in-45 c = found c.in-45.is c.read-in-45.ensures (record { full = refl; read = λ p. refl; head = heads _ _; within = record { target = lit< tt; kind = lit< tt } })

pub returns-in-47 : goal.returns-in-47
unfolding layout_of decode message_of values
returns-in-47 c = found c.in-47.is c.read-in-47.ensures (record { full = refl; read = λ p. refl; head = heads _ _; within = record { target = lit< tt; kind = lit< tt } })

pub returns-in-51 : goal.returns-in-51
unfolding layout_of decode message_of values
returns-in-51 c = found c.in-51.is c.read-in-51.ensures (record { full = refl; read = λ p. refl; head = heads _ _; within = record { target = lit< tt; kind = lit< tt } })

pub returns-in-73 : goal.returns-in-73
unfolding layout_of decode message_of values
returns-in-73 c = found c.in-73.is c.read-in-73.ensures (record { full = refl; read = λ p. refl; head = heads _ _; within = record { target = lit< tt; kind = lit< tt } })

pub returns-in-253 : goal.returns-in-253
unfolding layout_of decode message_of values
returns-in-253 c = found c.in-253.is c.only_written-in-253.ensures (record { full = refl; read = λ p. refl; head = tt; within = tt })

pub returns-in_default : goal.returns-in_default
returns-in_default c = search (missed, rules)
