-- What a handler says, as the rules' answer.
use Rattle.std.specs.Prelude.{ℕ, Ok, Err}
use Rattle.rules.specs.Limits.{accepted}
use Rattle.rules.specs.Messages.{Station, ack, request_int}
use Rattle.rules.specs.Step.{Answer, silent, says}
use Rattle.limits.specs.Codes.{fault_code}
use Rattle.upload.specs.declared.Say.{Say}
use Rattle.upload.specs.declared.Say.TheVariants.{Silent, Ack, AckOf, Ask}

abbrev pub answer_of : Say → Station → (kind : ℕ) → Answer
answer_of Silent to kind = silent
answer_of (Ack (Ok number)) to kind = says (ack to accepted kind number)
answer_of (Ack (Err fault)) to kind = says (ack to (fault_code fault) kind 0)
answer_of (AckOf result number) to kind = says (ack to result kind number)
answer_of (Ask seq) to kind = says (request_int to seq kind)
