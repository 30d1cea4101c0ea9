-- The promise of the public calls: `Serves` at the service's own state and its store of words, and what each call returns as a result.
use Rattle.std.specs.Prelude.{ℕ, ◌≡◌, refl, Bool, Option, Result, Ok, Err}
use Rattle.std.proofs.Common.{sym, ap, ◌∙◌}
use Rattle.rules.specs.Limits.{no_reply}
use Rattle.rules.specs.Payload.{Bytes}
use Rattle.rules.specs.Model.{in_range}
use Rattle.rules.specs.NextCommand as rules
use Rattle.rules.specs.Calls.{Call, refuses, heard}
use Rattle.rules.specs.Step.{refused}
use Rattle.limits.specs.declared.Refusal.{Refusal}
use Rattle.limits.specs.Codes.{refusal_code}
use Rattle.command.specs.declared.Command.{Command}
use Rattle.command.specs.declared.Command.TheVariants.{Stuck}
use Rattle.places.specs.Forms.{Store, words}
use Rattle.places.proofs.Lawful.{words_lawful}
use Rattle.plan.specs.declared.State.{State}
use Rattle.plan.specs.View.{view}
use Rattle.refusal.specs.Refusals.{refusal_of, refused_with}
use Rattle.answers.specs.declared.Reply.{Reply}
use Rattle.answers.specs.Answered.{outcome_in, id_in, len_in}
use Rattle.plan_search.specs.Orders.{order_of}
use Rattle.refine.specs.Promise as promise
use Rattle.refine.specs.Promise.{half_of, spare}
use Rattle.refine.specs.After.{gives}
use Rattle.refine.specs.Steps.{refused_steps}
use Rattle.refine.specs.Serving.{steps_serve}
use Rattle.own_calls.specs.declared.Served.{Served}
use Rattle.own_calls.specs.declared.Advanced.{Advanced}

-- Call c on state st, store s and reply buffer b gives the result r, store s' and buffer b', as the rules settle it.
abbrev pub Serves : Call → State → (s s' : Store) (b b' : Bytes) → promise.Result State → Type 0
Serves = promise.Serves State view half_of (spare words)

-- the numbers that message and timer return: "Outcome 0 also returns the reply's id and length; every other returns 0 for both"
abbrev pub answer_outcome : Result (Option Reply) Refusal → ℕ
answer_outcome (Ok reply) = outcome_in reply
answer_outcome (Err refusal) = refusal_code refusal

abbrev pub answer_id : Result (Option Reply) Refusal → ℕ
answer_id (Ok reply) = id_in reply
answer_id (Err refusal) = 0

abbrev pub answer_len : Result (Option Reply) Refusal → ℕ
answer_len (Ok reply) = len_in reply
answer_len (Err refusal) = 0

-- the outcome and the command that advance returns
abbrev pub advance_outcome : Result Command Refusal → ℕ
advance_outcome (Ok command) = no_reply
advance_outcome (Err refusal) = refusal_code refusal

abbrev pub advance_command : Result Command Refusal → Command
advance_command (Ok command) = command
advance_command (Err refusal) = Stuck

-- what message and timer return
abbrev pub served_result : Served → promise.Result State
served_result r = record { state = r.state; outcome = answer_outcome r.answer; id = answer_id r.answer; len = answer_len r.answer; command = rules.stuck }

-- what advance returns: it writes no message
abbrev pub advance_result : Advanced → promise.Result State
advance_result r = record { state = r.state; outcome = advance_outcome r.answer; id = 0; len = 0; command = order_of (advance_command r.answer) }

-- a refused call
pub refused_serves :
    (c : Call) (st : State) (s : Store) (b : Bytes) (ranged : Bool) (outcome : ℕ) → ranged ≡ in_range (view st s) → outcome ≡ refusal_of (heard ranged c) → (outcome ≡ 0 → ⊥)
    → Serves c st s s b b (record { state = st; outcome = outcome; id = 0; len = 0; command = rules.stuck })
refused_serves c st s b ranged outcome in_range_lem e other =
    let says : heard ranged c ≡ refuses outcome = refused_with (heard ranged c) outcome (sym e) other in
    steps_serve words words_lawful c st s s b b (gives st s (refused outcome)) (record { state = st; outcome = outcome; id = 0; len = 0; command = rules.stuck })
    (refused_steps words words_lawful c st s outcome (ap (λ (t : Bool). heard t c) (sym in_range_lem) ∙ says))
    (record { state = refl; store = refl; outcome = refl; id = refl; len = refl; command = refl; buffer = refl; reads = tt })
