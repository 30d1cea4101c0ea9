-- A message's handler and what it did.
use Rattle.std.specs.Prelude.{◌≡◌}
use Rattle.rules.specs.Payload.{Bytes}
use Rattle.places.specs.Forms.{Store}
use Rattle.record_steps.specs.Doing.{Done}
use Rattle.answers.specs.declared.Handled.{Handled}
use Rattle.answers.specs.Answered.{Handles}

-- the call's handler did and said that, and left the store so
pub record DoneBy (d : Done) (s' : Store) (b b' : Bytes) (r : Handled) : Type 0 where
  pub handles : Handles d.effect d.answer b b' r
  pub store : s' ≡ d.store
