-- A flag is shown as the byte that the code holds it in.
use Rattle.std.proofs.Common.{◌≡◌, refl, Bool, true, false}
use mir.Val.{bool_byte}
use Rattle.dump.specs.Dumps.{flag}

pub flag_byte : (b : Bool) → bool_byte b ≡ flag b
flag_byte true = refl
flag_byte false = refl
