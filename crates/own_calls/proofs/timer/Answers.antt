-- A refused call by its refusal; any other by the timer's turn, put into the state.
use mathlib.Core.Path.{◌≡◌}
use lib.ListN.{length}
use borrow.Author.Rules.{rules}
use Rattle.rules.specs.Limits.{kinds}
use Rattle.own_calls.proofs.Ways.{TimerTaken, timer_refused, timer_taken, place_lem, timer_turns, timer_nothing}
use Rattle.own_calls.proofs.timer.Goals as goal

pub returns-in-Err : goal.returns-in-Err
returns-in-Err c =
    let outcome = c.timer_refusal-verdict.ensures.outcome in
    search (timer_refused, outcome, rules)

pub expire-done-requires : goal.expire-done-requires
expire-done-requires c =
    let outcome = c.timer_refusal-verdict.ensures.outcome in
    let three : length c.args.state.plans ≡ length kinds = search rules in
    let t : TimerTaken c.args.state c.args.store.now c.args.reply.now c.args.kind c.args.clock = timer_taken _ _ _ _ _ _ _ c.ranged-in_range.ensures outcome c.in-Ok.known c.in-Ok.is three in
    t.room

pub returns-in-Turns : goal.returns-in-Turns
returns-in-Turns c =
    let outcome = c.timer_refusal-verdict.ensures.outcome in
    let three : length c.args.state.plans ≡ length kinds = search rules in
    let t : TimerTaken c.args.state c.args.store.now c.args.reply.now c.args.kind c.args.clock = timer_taken _ _ _ _ _ _ _ c.ranged-in_range.ensures outcome c.in-Ok.known c.in-Ok.is three in
    let place = place_lem _ _ c.timer_refusal-verdict.ensures.given c.in-Ok.known c.in-Ok.is _ c.place_of-k.ensures.0 in
    timer_turns _ _ _ _ _ t _ _ _ place c.expire-done.ensures _ c.in-Turns.is

pub returns-in_default : goal.returns-in_default
returns-in_default c =
    let outcome = c.timer_refusal-verdict.ensures.outcome in
    let three : length c.args.state.plans ≡ length kinds = search rules in
    let t : TimerTaken c.args.state c.args.store.now c.args.reply.now c.args.kind c.args.clock = timer_taken _ _ _ _ _ _ _ c.ranged-in_range.ensures outcome c.in-Ok.known c.in-Ok.is three in
    let place = place_lem _ _ c.timer_refusal-verdict.ensures.given c.in-Ok.known c.in-Ok.is _ c.place_of-k.ensures.0 in
    timer_nothing _ _ _ _ _ t _ _ _ place c.expire-done.ensures c.in_default.not-Turns
