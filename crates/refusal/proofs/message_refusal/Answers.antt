-- Each return is the first test that holds, in the rules' order: one lemma a return, over the facts on its way.
use mathlib.Core.Path.{◌≡◌, ap, sym, ◌∙◌}
use mathlib.Core.Bool.{Bool, true, false, not, ◌&&◌, cond}
use Prim.Native.Nat.{ℕ}
use lib.Dec.{eqb}
use lib.ListN.{length}
use Rattle.std.specs.Prelude.{Option, None, Some, is_some, ⊤}
use Rattle.std.proofs.Common.{arith}
use Rattle.std.proofs.lemmas.Option.{MatchOption-at_some}
use Rattle.std.proofs.lemmas.Result.{err_from_is_err_and}
use borrow.Author.Tests.{eq-eqb, ne_eqb}
use Rattle.rules.specs.Limits.{empty_payload, not_read, not_for_us}
use Rattle.rules.specs.Payload.{Bytes}
use Rattle.rules.specs.Messages.{Station, station, decode}
use Rattle.rules.specs.Calls.{refuses, request, message, heard, ours_or_all}
use Rattle.message_table.specs.declared.Received.{Received}
use Rattle.message_table.specs.Table.{is_read, target_of, kind_of, head_of}
use Rattle.limits.specs.declared.Refusal.TheVariants.{NotRead}
use Rattle.limits.specs.Codes.{refused}
use Rattle.refusal.specs.Refusals.{refusal_of, request_of, room_refusal, is_for_us, HeadRead, heard_by, heard_by_lem, refused_first, room_found, room_passed}
use Rattle.refusal.proofs.message_refusal.Goals as goal

module _ (ranged : Bool) (system component : ℕ) (from : Station) (id : ℕ) (p : Bytes) (clock store reply : ℕ) where
  abbrev own : Station
  own = station system component

  abbrev refusal : ℕ
  refusal = refusal_of (heard ranged (message own from id p clock store reply))

  earlier : (first : ℕ) → first ≡ room_refusal ranged store reply → (first ≡ 0 → ⊥) → first ≡ refusal
  unfolding heard_by
  earlier first by some = by ∙ refused_first ranged store reply _ (λ none. some (by ∙ none)) ∙ ap refusal_of (sym (heard_by_lem ranged own from id p clock store reply))

  module _ (none : 0 ≡ room_refusal ranged store reply) (size : ℕ) (sized : length p ≡ size) where
    -- where there is room, the other tests decide
    rest : refusal
        ≡ refusal_of (cond (eqb (length p) 0) (refuses empty_payload)
        (cond (not (is_read (decode id p))) (refuses not_read)
        (cond (not (is_for_us own (target_of (decode id p)))) (refuses not_for_us) (request from clock (kind_of (decode id p)) (request_of (decode id p))))))
    unfolding heard_by
    rest = ap refusal_of (heard_by_lem ranged own from id p clock store reply ∙ room_passed ranged store reply _ (room_found ranged store reply (sym none)))

    empty_payload_lem : size ≡ 0 → empty_payload ≡ refusal
    empty_payload_lem empty = rw (rest, eq-eqb _ _ (sized ∙ empty))

    module _ (some : size ≡ 0 → ⊥) where
      not_empty : eqb (length p) 0 ≡ false
      not_empty = ne_eqb _ _ (λ e. some (sym sized ∙ e))

      module _ (received : Option Received) (known : HeadRead id p received) where
        not_read_lem : received ≡ None → not_read ≡ refusal
        not_read_lem none = rw (rest, not_empty, (sym known.is_read ∙ ap is_some none))

        module _ (got : Received) (is : received ≡ Some got) (a b : Bool) (ours : a ≡ ours_or_all system got.head.system) (ours' : b ≡ ours_or_all component got.head.component) where
          heads : got.head ≡ head_of (decode id p)
          heads = MatchOption-at_some ⊤ (λ (r : Received). r.head ≡ head_of (decode id p)) got is known.heads

          read : is_read (decode id p) ≡ true
          read = sym known.is_read ∙ ap is_some is

          not_for_us_lem : a && b ≡ false → not_for_us ≡ refusal
          not_for_us_lem other = rw (rest, not_empty, read, (rw (ours, ours', heads) at other))

          passes : a && b ≡ true → 0 ≡ refusal
          passes other = rw (rest, not_empty, read, (rw (ours, ours', heads) at other))

pub returns-in_err-room_refusal-clause-outcome : goal.returns-in_err-room_refusal-clause-outcome
returns-in_err-room_refusal-clause-outcome c from id p clock sized known =
    let e = err_from_is_err_and c.from_residual.result c.from_residual.ensures.1 in
    rw (e.1, e.2) (earlier _ _ _ from id p clock _ _ _ c.in_err-room_refusal.ensures (refused _))

pub returns-then-payload_len-eq0-clause-outcome : goal.returns-then-payload_len-eq0-clause-outcome
returns-then-payload_len-eq0-clause-outcome c from id p clock sized known =
    empty_payload_lem _ _ _ from id p clock _ _ c.in_ok-room_refusal.ensures _ sized c.if-payload_len-eq0.true

pub returns-in_err-got-clause-outcome : goal.returns-in_err-got-clause-outcome
returns-in_err-got-clause-outcome c from id p clock sized known =
    let none : c.args.received ≡ None = grind arith in
    let is : c.in_err-got.field-0.0 ≡ NotRead = grind arith in
    let e = err_from_is_err_and c.from_residual-in_err-got.result c.from_residual-in_err-got.ensures.1 in
    rw (e.1, e.2, is) (not_read_lem _ _ _ from id p clock _ _ c.in_ok-room_refusal.ensures _ sized c.if-payload_len-eq0.false _ known none)

pub returns-then-not-ours_or_all-clause-outcome : goal.returns-then-not-ours_or_all-clause-outcome
returns-then-not-ours_or_all-clause-outcome c from id p clock sized known =
    let is : c.args.received ≡ Some c.in_ok-got.got = grind arith in
    not_for_us_lem _ _ _ from id p clock _ _ c.in_ok-room_refusal.ensures _ sized c.if-payload_len-eq0.false _ known _ is _ _
    c.ours_or_all.ensures c.ours_or_all-2.ensures c.if-not-ours_or_all.true

pub returns-clause-outcome : goal.returns-clause-outcome
returns-clause-outcome c from id p clock sized known =
    let is : c.args.received ≡ Some c.in_ok-got.got = grind arith in
    passes _ _ _ from id p clock _ _ c.in_ok-room_refusal.ensures _ sized c.if-payload_len-eq0.false _ known _ is _ _
    c.ours_or_all.ensures c.ours_or_all-2.ensures c.if-not-ours_or_all.false

pub returns-clause-given : goal.returns-clause-given
returns-clause-given c = let is : c.args.received ≡ Some c.in_ok-got.got = grind arith in
    is
