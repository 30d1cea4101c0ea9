-- The state after a "command done" call shows what the rules' advance shows, with the rules' answer.
use Rattle.std.specs.Prelude.{◌≡◌, refl, Option, None, Some}
use Rattle.std.proofs.Math.Path.{ap}
use Rattle.std.proofs.Math.Bool.{true}
use Rattle.places.specs.Forms.{Store}
use Rattle.rules.specs.Model.{Model}
use Rattle.rules.specs.NextCommand.{answer_of, reach}
use Rattle.rules.specs.NextCommand as rules
use Rattle.command.specs.declared.Command.{Command}
use Rattle.plan.specs.declared.State.{State}
use Rattle.plan.specs.View.{view_in, view}
use Rattle.next_command.specs.declared.find.Found.{Found}
use Rattle.next_command.specs.declared.find.Stand.{Stand}
use Rattle.plan_search.specs.Orders.{order_of}
use Rattle.next_command.specs.Finding.{found_of}

-- the model after a "command done" call
abbrev after_done : Model → Model
after_done m = record { shown = rules.advance m.shown; uploads = m.uploads }

-- state st' and a command are what the call on st gives
pub record OrderedBy (st : State) (store : Store) (st' : State) (command : Command) : Type 0 where
  pub answer : order_of command ≡ answer_of (rules.next (view st store).shown)
  pub shown : view st' store ≡ after_done (view st store)
  pub plans : st'.plans ≡ st.plans

-- "The first item that is no jump becomes current and begun"; otherwise the state stays
abbrev pub reached_state : State → Option Stand → State
reached_state st None = st
reached_state st (Some s) = record { plans = st.plans; current = s.n; begun = true; home = st.home; counts = s.counts }

module _ (st : State) (store : Store) (command : Command) where
  reaches_at : (s : Option Stand) → found_of (record { stand = s; command = command }) ≡ rules.next (view st store).shown → OrderedBy st store (reached_state st s) command
  unfolding view_in rules.advance reach
  reaches_at None e =
      record {
        answer = ap answer_of e;
        shown = ap (λ (f : rules.Found). record { shown = reach f (view st store).shown; uploads = (view st store).uploads }) e;
        plans = refl;
      }
  reaches_at (Some s) e =
      record {
        answer = ap answer_of e;
        shown = ap (λ (f : rules.Found). record { shown = reach f (view st store).shown; uploads = (view st store).uploads }) e;
        plans = refl;
      }

pub reaches : (st : State) (store : Store) (f : Found) → found_of f ≡ rules.next (view st store).shown → OrderedBy st store (reached_state st f.stand) f.command
reaches st store f e = reaches_at st store f.command f.stand e
