-- Decoding by the id: what holds of the messages of the ids of the table, and of an unknown one, holds of every decoded message.
use Rattle.std.specs.Prelude.{ℕ, eqb}
use Rattle.std.proofs.Common.{eqb-true}
use Rattle.rules.specs.Payload.{Bytes}
use Rattle.rules.specs.Layouts.{partial_list_id, set_current_id, current_id, request_list_id, count_id, clear_all_id, ack_id, request_int_id, item_int_id, statustext_id}
use Rattle.rules.specs.Messages.{Message, unknown, message_of, decode}
use Rattle.rule_laws.specs.Tests.{either}

pub decode_cases :
    (P : Message → Type 0) (p : Bytes)
    → P (decode partial_list_id p)
    → P (decode set_current_id p)
    → P (decode current_id p)
    → P (decode request_list_id p)
    → P (decode count_id p)
    → P (decode clear_all_id p)
    → P (decode ack_id p)
    → P (decode request_int_id p)
    → P (decode item_int_id p)
    → P (decode statustext_id p)
    → P unknown
    → (id : ℕ)
    → P (decode id p)
unfolding decode message_of
decode_cases P p h38 h41 h42 h43 h44 h45 h47 h51 h73 h253 other id =
    either P (eqb id partial_list_id) (λ e. rw (eqb-true id partial_list_id e) h38)
    (λ _. either P (eqb id set_current_id) (λ e. rw (eqb-true id set_current_id e) h41)
    (λ _. either P (eqb id current_id) (λ e. rw (eqb-true id current_id e) h42)
    (λ _. either P (eqb id request_list_id) (λ e. rw (eqb-true id request_list_id e) h43)
    (λ _. either P (eqb id count_id) (λ e. rw (eqb-true id count_id e) h44)
    (λ _. either P (eqb id clear_all_id) (λ e. rw (eqb-true id clear_all_id e) h45)
    (λ _. either P (eqb id ack_id) (λ e. rw (eqb-true id ack_id e) h47)
    (λ _. either P (eqb id request_int_id) (λ e. rw (eqb-true id request_int_id e) h51)
    (λ _. either P (eqb id item_int_id) (λ e. rw (eqb-true id item_int_id e) h73)
    (λ _. either P (eqb id statustext_id) (λ e. rw (eqb-true id statustext_id e) h253) (λ _. other))))))))))
