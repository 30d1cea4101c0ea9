-- The state, the store and the answer after a call: what its handler does, put into the state.
use Rattle.std.specs.Prelude.{ℕ}
use Rattle.places.specs.Forms.{Store, Form}
use Rattle.rules.specs.Messages.{Station}
use Rattle.rules.specs.Calls.{Request}
use Rattle.rules.specs.Step.{Answer}
use Rattle.plan.specs.declared.State.{State}
use Rattle.plan.specs.View.{plan_of}
use Rattle.upload.specs.declared.Turned.{Turned}
use Rattle.upload.specs.Turns.{TurnAndStore}
use Rattle.upload.specs.Effects.{applied}
use Rattle.record_steps.specs.Doing.{Done, turns, item_turns, message_done, timer_done}

pub record After : Type 0 where
  pub state : State
  pub store : Store
  pub answer : Answer

abbrev pub gives : State → Store → Answer → After
gives st s a = record { state = st; store = s; answer = a }

abbrev pub after : State → (kind : ℕ) → Done → After
after st kind d = gives (applied st kind d.effect) d.store d.answer

-- after a turn of one kind's plan, answered to a station
abbrev pub after_turn : State → Store → (kind : ℕ) → Station → Turned → After
after_turn st s kind to t = after st kind (turns s kind to t)

abbrev pub after_item : State → (kind : ℕ) → Station → TurnAndStore → After
after_item st kind from t = after st kind (item_turns kind from t)

abbrev pub after_message : Form → State → Store → Station → (now kind : ℕ) → Request → After
after_message F st s from now kind r = after st kind (message_done F st.home st.plans st.current s from now kind r)

abbrev pub after_timer : State → Store → (now kind : ℕ) → After
after_timer st s now kind = after st kind (timer_done (plan_of st kind) s now kind)
