-- `command_words::bits` meets its contract, of a NaN; the check finds the rest.
use mathlib.Core.Path.{sym, ◌∙◌}
use Rattle.command_words.proofs.Ways.{nan_bits}
use Rattle.command_words.proofs.bits.Goals as goal

pub returns-then-is_nan : goal.returns-then-is_nan
returns-then-is_nan c = nan_bits c.args.x (sym c.is_nan.ensures.value ∙ c.if-is_nan.true)
