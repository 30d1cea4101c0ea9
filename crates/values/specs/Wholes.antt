-- The code's readings in the rules' terms.
use Rattle.std.specs.Prelude.{◌≡◌, ℤ, Result, Ok, Err}
use Rattle.std.proofs.Common.{sym, ap, ◌∙◌}
use Rattle.rules.specs.Values as rules
use Rattle.values.specs.declared.NotWhole.{NotWhole}
use Rattle.values.specs.declared.NotWhole.TheVariants.{NoValue, Fraction}

abbrev pub meant : Result ℤ NotWhole → rules.Whole
meant (Ok v) = rules.integer v
meant (Err NoValue) = rules.no_value
meant (Err Fraction) = rules.not_whole

-- a reading whose variant is known
pub read_as : {w : rules.Whole} {r q : Result ℤ NotWhole} → meant r ≡ w → r ≡ q → meant q ≡ w
read_as reads is = sym (ap meant is) ∙ reads
