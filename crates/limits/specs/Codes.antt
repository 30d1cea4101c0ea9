-- What each fault and each refusal is called in the rules, and what a result of them says.
use Rattle.std.specs.Prelude.{◌≡◌, ℕ, Result, Ok, Err}
use Rattle.std.proofs.Common.{arith}
use Rattle.rules.specs.Limits.{accepted, unsupported_frame, unsupported, no_space, invalid, invalid_param1, invalid_param2, invalid_x, invalid_y, invalid_z, invalid_sequence, denied, cancelled, short_reply, empty_payload, not_read, not_for_us, short_store, out_of_range}
use Rattle.limits.specs.declared.Fault.{Fault}
use Rattle.limits.specs.declared.Fault.TheVariants.{UnsupportedFrame, Unsupported, NoSpace, Invalid, InvalidParam1, InvalidParam2, InvalidX, InvalidY, InvalidZ, InvalidSequence, Denied, Cancelled}
use Rattle.limits.specs.declared.Refusal.{Refusal}
use Rattle.limits.specs.declared.Refusal.TheVariants.{ShortReply, EmptyPayload, NotRead, NotForUs, ShortStore, OutOfRange}

-- the result that an ACK says
abbrev pub fault_code : Fault → ℕ
fault_code UnsupportedFrame = unsupported_frame
fault_code Unsupported = unsupported
fault_code NoSpace = no_space
fault_code Invalid = invalid
fault_code InvalidParam1 = invalid_param1
fault_code InvalidParam2 = invalid_param2
fault_code InvalidX = invalid_x
fault_code InvalidY = invalid_y
fault_code InvalidZ = invalid_z
fault_code InvalidSequence = invalid_sequence
fault_code Denied = denied
fault_code Cancelled = cancelled

-- the outcome of a refused call
abbrev pub refusal_code : Refusal → ℕ
refusal_code ShortReply = short_reply
refusal_code EmptyPayload = empty_payload
refusal_code NotRead = not_read
refusal_code NotForUs = not_for_us
refusal_code ShortStore = short_store
refusal_code OutOfRange = out_of_range

-- 0 where nothing is at fault
abbrev pub result_code : {T : Type 0} → Result T Fault → ℕ
result_code (Ok v) = accepted
result_code (Err f) = fault_code f

-- 0 where nothing is refused
abbrev pub outcome_code : {T : Type 0} → Result T Refusal → ℕ
outcome_code (Ok v) = 0
outcome_code (Err r) = refusal_code r

-- ---- no fault and no refusal has the number 0

pub faulty : (f : Fault) → fault_code f ≡ 0 → ⊥
faulty UnsupportedFrame e = omega arith
faulty Unsupported e = omega arith
faulty NoSpace e = omega arith
faulty Invalid e = omega arith
faulty InvalidParam1 e = omega arith
faulty InvalidParam2 e = omega arith
faulty InvalidX e = omega arith
faulty InvalidY e = omega arith
faulty InvalidZ e = omega arith
faulty InvalidSequence e = omega arith
faulty Denied e = omega arith
faulty Cancelled e = omega arith

pub refused : (r : Refusal) → refusal_code r ≡ 0 → ⊥
refused ShortReply e = omega arith
refused EmptyPayload e = omega arith
refused NotRead e = omega arith
refused NotForUs e = omega arith
refused ShortStore e = omega arith
refused OutOfRange e = omega arith
