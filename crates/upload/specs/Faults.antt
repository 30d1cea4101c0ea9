-- The fault that a result of the rules names, and that a fault is found again from its own result.
use Rattle.std.specs.Prelude.{ℕ, ◌≡◌, refl, cond, ◌==◌}
use Rattle.std.proofs.Common.{ap, sym, ◌∙◌}
use Rattle.rules.specs.Limits.{unsupported_frame, unsupported, no_space, invalid, invalid_param1, invalid_param2, invalid_x, invalid_y, invalid_z, invalid_sequence, denied}
use Rattle.limits.specs.declared.Fault.{Fault}
use Rattle.limits.specs.declared.Fault.TheVariants.{UnsupportedFrame, Unsupported, NoSpace, Invalid, InvalidParam1, InvalidParam2, InvalidX, InvalidY, InvalidZ, InvalidSequence, Denied, Cancelled}
use Rattle.limits.specs.Codes.{fault_code}

-- a result that is no fault's names the last
unfoldable pub fault_named : (result : ℕ) → Fault
fault_named result =
    cond (result == unsupported_frame) UnsupportedFrame
    (cond (result == unsupported) Unsupported
    (cond (result == no_space) NoSpace
    (cond (result == invalid) Invalid
    (cond (result == invalid_param1) InvalidParam1
    (cond (result == invalid_param2) InvalidParam2
    (cond (result == invalid_x) InvalidX
    (cond (result == invalid_y) InvalidY
    (cond (result == invalid_z) InvalidZ
    (cond (result == invalid_sequence) InvalidSequence
    (cond (result == denied) Denied Cancelled))))))))))

pub named_code : (f : Fault) → fault_named (fault_code f) ≡ f
unfolding fault_named
named_code UnsupportedFrame = refl
named_code Unsupported = refl
named_code NoSpace = refl
named_code Invalid = refl
named_code InvalidParam1 = refl
named_code InvalidParam2 = refl
named_code InvalidX = refl
named_code InvalidY = refl
named_code InvalidZ = refl
named_code InvalidSequence = refl
named_code Denied = refl
named_code Cancelled = refl

pub named_as : (f : Fault) (result : ℕ) → fault_code f ≡ result → f ≡ fault_named result
named_as f result e = sym (named_code f) ∙ ap fault_named e
