-- A refused call by its refusal; any other by its handler's effect, put into the state.
use mathlib.Core.Path.{◌≡◌}
use lib.ListN.{length}
use Rattle.rules.specs.Limits.{kinds}
use Rattle.rules.specs.Messages.{station}
use borrow.Author.Rules.{rules}
use Rattle.service.proofs.Ways.{MessageTaken, message_refused, message_taken, message_serves, known_turned, known_renewed, known_changed}
use Rattle.service.proofs.message.Goals as goal

pub returns-in-Err : goal.returns-in-Err
returns-in-Err c = search (message_refused, rules)

pub answer-done-requires : goal.answer-done-requires
answer-done-requires c =
    let three : length c.args.state.plans ≡ length kinds = search rules in
    let t :
    MessageTaken c.args.state c.args.store.now c.args.reply.now (station c.args.own_system c.args.own_component) (station c.args.system c.args.component) c.args.id c.args.payload.now
    c.args.clock c.in-Ok.got =
    message_taken _ _ _ _ _ _ _ _ _ _ _ c.ranged-in_range.ensures c.receive-received.ensures c.message_refusal-verdict.ensures.outcome
    c.in-Ok.got c.in-Ok.is c.message_refusal-verdict.ensures.given three in
    (t.plans, t.long, t.room, t.read)

pub apply-requires : goal.apply-requires
apply-requires c =
    let three : length c.args.state.plans ≡ length kinds = search rules in
    let t :
    MessageTaken c.args.state c.args.store.now c.args.reply.now (station c.args.own_system c.args.own_component) (station c.args.system c.args.component) c.args.id c.args.payload.now
    c.args.clock c.in-Ok.got =
    message_taken _ _ _ _ _ _ _ _ _ _ _ c.ranged-in_range.ensures c.receive-received.ensures c.message_refusal-verdict.ensures.outcome
    c.in-Ok.got c.in-Ok.is c.message_refusal-verdict.ensures.given three in
    let by = c.answer-done.ensures in
    record {
      three = three;
      turned = known_turned _ _ _ _ _ _ _ _ _ t _ _ _ by;
      renewed = known_renewed _ _ _ _ _ _ _ _ _ t _ _ _ by;
      changed = known_changed _ _ _ _ _ _ _ _ _ t _ _ _ by;
    }

pub returns : goal.returns
returns c =
    let three : length c.args.state.plans ≡ length kinds = search rules in
    let t :
    MessageTaken c.args.state c.args.store.now c.args.reply.now (station c.args.own_system c.args.own_component) (station c.args.system c.args.component) c.args.id c.args.payload.now
    c.args.clock c.in-Ok.got =
    message_taken _ _ _ _ _ _ _ _ _ _ _ c.ranged-in_range.ensures c.receive-received.ensures c.message_refusal-verdict.ensures.outcome
    c.in-Ok.got c.in-Ok.is c.message_refusal-verdict.ensures.given three in
    message_serves _ _ _ _ _ _ _ _ _ t _ _ _ c.answer-done.ensures _ c.apply.ensures
