-- Of a kind above the last there is no plan, and nothing turns.
use Prim.Native.Nat.{ℕ, ◌<◌}
use mathlib.Core.Path.{◌≡◌, refl}
use native.Mathlib.Omega.{arith}
use borrow.Author.Rules.{rules}
use mathlib.Core.List.{List}
use lib.ListN.{length}
use Rattle.std.proofs.lemmas.List.{get_or_past}
use Rattle.rules.specs.Limits.{rally, kinds}
use Rattle.rules.specs.Messages.{Station}
use Rattle.plan.specs.declared.Plan.{Plan}
use Rattle.plan.specs.View.{empty_plan}
use Rattle.upload.specs.declared.Effect.TheVariants.{Nothing}
use Rattle.upload.specs.Turns.{ack_turned, own_upload}
use Rattle.record_steps.specs.Doing.{plan_among}
use Rattle.protocol.proofs.acknowledged.Goals as goal

above : (ps : List Plan) (kind : ℕ) (from : Station) (result : ℕ) → length ps ≡ length kinds → rally < kind
    → Nothing ≡ (ack_turned (plan_among ps kind) from result).effect
unfolding ack_turned own_upload
above ps kind from result three more = rw (get_or_past ps kind empty_plan (omega arith)) refl

pub returns-in-Err : goal.returns-in-Err
returns-in-Err c = search (above, rules)
