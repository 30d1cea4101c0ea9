-- `command_words::value_bytes` meets its contract: the library's bytes, highest first.
use mathlib.Core.Path.{ap, ◌∙◌}
use native.Mathlib.Omega.{arith}
use Rattle.command_words.specs.Commands.{high_first}
use Rattle.command_words.proofs.Ways.{highest_first}
use Rattle.command_words.proofs.value_bytes.Goals as goal

pub returns : goal.returns
returns c = c.to_be_bytes.ensures ∙ highest_first c.bits.result (omega arith) ∙ ap high_first c.bits.ensures
