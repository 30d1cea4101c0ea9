-- Flags in numbers of 64 bits.
use Rattle.std.specs.Prelude.{ℕ, ◌*◌, Bool, true, false}
use Rattle.std.specs.Int.{w64}
use mir.Val.{Fits, bool_byte}
use Rattle.std.proofs.Common.{rules}

-- a multiple of a flag fits where the number does
pub flag_times : (n : ℕ) → Fits w64 n → (b : Bool) → Fits w64 (n * bool_byte b)
flag_times n fits true = search rules
flag_times n fits false = search rules
