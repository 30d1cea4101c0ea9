-- What it means that the numbers of messages, calls and models fit their fields and widths.
use Rattle.std.specs.Prelude.{ℕ, ◌<◌, List, [], ◌∷◌, get_or}
use Rattle.rules.specs.Limits.{byte_values, clock_values}
use Rattle.rules.specs.Payload.{Bytes}
use Rattle.rules.specs.Layouts.{layout_of}
use Rattle.rules.specs.Messages.{Station, Message, id_of, values_of}
use Rattle.rules.specs.Model.{Plan, Run, Upload, idle, running, Model, plan_of, upload_of}
use Rattle.rules.specs.Calls.{Call, message, timer, done}
use Rattle.rules.specs.Step.{Answer, refused, silent, says, orders}
use Rattle.rule_laws.specs.Layout.{FitFields}

-- each value fits its field's size
abbrev pub Fits : Message → Type 0
Fits m = FitFields (layout_of (id_of m)).fields (values_of m)

-- a reply, where there is one
abbrev pub AnswerFits : Answer → Type 0
AnswerFits (refused outcome) = Unit {0}
AnswerFits silent = Unit {0}
AnswerFits (says reply) = Fits reply
AnswerFits (orders c) = Unit {0}

abbrev pub AllBytes : Bytes → Type 0
AllBytes p = (i : ℕ) → get_or p i 0 < byte_values

pub record StationFits (s : Station) : Type 0 where
  pub system : s.system < byte_values
  pub component : s.component < byte_values

-- own and sender numbers are bytes, the payload's bytes are, and clock readings have 32 bits
abbrev pub CallFits : Call → Type 0
CallFits (message own from id payload clock store reply) = StationFits own × StationFits from × AllBytes payload × (clock < clock_values)
CallFits (timer kind clock store reply) = (kind < byte_values) × (clock < clock_values)
CallFits (done store) = Unit {0}

-- of a list every call
abbrev pub CallsFit : List Call → Type 0
CallsFit [] = Unit {0}
CallsFit (c ∷ cs) = CallFits c × CallsFit cs

-- plan numbers have 32 bits, and the stored items are bytes
pub record PlanFits (p : Plan) : Type 0 where
  pub number : p.number < clock_values
  pub items : (n : ℕ) → AllBytes (get_or p.items n [])

pub record RunFits (r : Run) : Type 0 where
  pub station : StationFits r.station
  pub started : r.started < clock_values
  pub taken : (n : ℕ) → AllBytes (get_or r.taken n [])

abbrev pub UploadFits : Upload → Type 0
UploadFits idle = Unit {0}
UploadFits (running r) = RunFits r

pub record ModelFits (m : Model) : Type 0 where
  pub plans : (kind : ℕ) → PlanFits (plan_of m.shown kind)
  pub uploads : (kind : ℕ) → UploadFits (upload_of m kind)
