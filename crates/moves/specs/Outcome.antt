-- What outcome 1 of the move tells of the stores and the state.
use Rattle.std.specs.Prelude.{ℕ, ◌≤◌, ◌≡◌, refl, Bool, true, false, cond, ◌||◌, ltb}
use Rattle.std.proofs.Common.{arith, ltb-false}
use Rattle.rules.specs.Limits.{short_store, out_of_range, no_reply}
use Rattle.rule_laws.specs.Tests.{neither}
use Rattle.places.specs.Forms.{words, bytes, least}
use Rattle.moves.specs.Moves.{outcome_of}

pub record Movable (ranged : Bool) (old new : ℕ) : Type 0 where
  pub old_long : least bytes ≤ old
  pub new_long : least words ≤ new
  pub in_range : ranged ≡ true

pub movable : (ranged : Bool) (old new : ℕ) → outcome_of ranged old new ≡ no_reply → Movable ranged old new
movable ranged old new e = go (ltb old (least bytes) || ltb new (least words)) ranged refl refl e
  where
    go : (short t : Bool) → (ltb old (least bytes) || ltb new (least words)) ≡ short → ranged ≡ t → cond short short_store (cond t no_reply out_of_range) ≡ no_reply → Movable ranged old new
    go true t is r e = absurd (omega arith)
    go false false is r e = absurd (omega arith)
    go false true is r e =
        let long = neither (ltb old (least bytes)) (ltb new (least words)) is in
        record { old_long = ltb-false old (least bytes) long.0; new_long = ltb-false new (least words) long.1; in_range = r }
