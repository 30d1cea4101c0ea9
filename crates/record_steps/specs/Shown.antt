-- The answers to REQUEST_LIST, REQUEST_INT and SET_CURRENT over the plans and the store, in every form of store.
use Rattle.std.specs.Prelude.{ℕ, [], ◌∷◌, cond, get_or, ltb}
use Rattle.rules.specs.Limits.{invalid_sequence}
use Rattle.rules.specs.Messages.{Station, count, ack, item_int, item_in}
use Rattle.rules.specs.Model.{shown_number}
use Rattle.rules.specs.Step.{Answer, says, current_field, current_of, refusal_text}
use Rattle.plan.specs.declared.Plan.{Plan}
use Rattle.places.specs.Forms.{Store, Form, item_at}
use Rattle.plan.specs.View.{empty_plan}
use Rattle.upload.specs.declared.Effect.{Effect}
use Rattle.upload.specs.declared.Effect.TheVariants.{Nothing, Chooses}

-- the number that a plan shows
abbrev pub number_of : Plan → ℕ
number_of p = shown_number p.len p.number

unfoldable pub list_answer : Plan → Station → (kind : ℕ) → Answer
list_answer p from kind = says (count from p.len kind (number_of p))

unfoldable pub request_answer : Form → Plan → (current : ℕ) → Store → Station → (kind seq : ℕ) → Answer
request_answer F p current s from kind seq =
    cond (ltb seq p.len) (says (item_int from (current_field kind seq current) (item_in (item_at F s p.half kind seq))))
    (says (ack from invalid_sequence kind 0))

unfoldable pub choose_effect : (flight : Plan) (seq : ℕ) → Effect
choose_effect p seq = cond (ltb seq p.len) (Chooses seq) Nothing

unfoldable pub choose_answer : (flight fence rally : Plan) (seq : ℕ) → Answer
choose_answer p q r seq =
    cond (ltb seq p.len) (says (current_of seq p.len (λ (kind : ℕ). number_of (get_or (p ∷ q ∷ r ∷ []) kind empty_plan)))) (says refusal_text)
