-- Each return is the first test that holds, in the rules' order: one lemma a return, over the facts on its way.
use mathlib.Core.Path.{◌≡◌, sym, ◌∙◌}
use mathlib.Core.Bool.{Bool}
use Prim.Native.Nat.{ℕ, ◌<◌, ◌≤◌}
use native.Mathlib.Omega.{arith}
use borrow.Author.Tests.{lt-leb, le-leb}
use borrow.Author.Rules.{rules}
use Rattle.std.proofs.lemmas.Result.{err_from_is_err_and}
use Rattle.rules.specs.Limits.{rally, not_read}
use Rattle.rules.specs.Calls.{timer, heard}
use Rattle.limits.specs.Codes.{refused}
use Rattle.limits.specs.Kinds.{kind_number, kind_known}
use Rattle.refusal.specs.Refusals.{refusal_of, room_refusal, refused_first, room_found, room_passed}
use Rattle.refusal.proofs.timer_refusal.Goals as goal

module _ (ranged : Bool) (kind clock store reply : ℕ) where
  abbrev refusal : ℕ
  refusal = refusal_of (heard ranged (timer kind clock store reply))

  earlier : (first : ℕ) → first ≡ room_refusal ranged store reply → (first ≡ 0 → ⊥) → first ≡ refusal
  unfolding heard
  earlier first by some = by ∙ refused_first ranged store reply _ (λ none. some (by ∙ none))

  module _ (none : 0 ≡ room_refusal ranged store reply) where
    no_kind : rally < kind → not_read ≡ refusal
    unfolding heard
    no_kind above = rw (room_passed ranged store reply _ (room_found ranged store reply (sym none)), lt-leb _ _ above)

    passes : kind ≤ rally → 0 ≡ refusal
    unfolding heard
    passes known = rw (room_passed ranged store reply _ (room_found ranged store reply (sym none)), le-leb _ _ known)

pub returns-in_err-room_refusal-clause-outcome : goal.returns-in_err-room_refusal-clause-outcome
returns-in_err-room_refusal-clause-outcome c clock =
    let p = err_from_is_err_and c.from_residual.result c.from_residual.ensures.1 in
    rw (p.1, p.2) (earlier _ _ _ _ _ _ c.in_err-room_refusal.ensures (refused _))

pub returns-in-Err-clause-outcome : goal.returns-in-Err-clause-outcome
returns-in-Err-clause-outcome c clock = no_kind _ _ _ _ _ c.in_ok-room_refusal.ensures (search rules)

pub returns-in-Ok-clause-outcome : goal.returns-in-Ok-clause-outcome
returns-in-Ok-clause-outcome c clock =
    let is : kind_number c.in-Ok.known ≡ c.args.kind = search rules in
    passes _ _ _ _ _ c.in_ok-room_refusal.ensures (omega (arith, is, kind_known c.in-Ok.known))

pub returns-in-Ok-clause-given : goal.returns-in-Ok-clause-given
returns-in-Ok-clause-given c = let is : kind_number c.in-Ok.known ≡ c.args.kind = search rules in is
