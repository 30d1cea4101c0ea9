-- `command_words::put_command` meets its contract, of a servo's numbers; the check finds the other commands.
use mathlib.Core.List.{◌++◌}
use Rattle.adding.specs.Laws.{adds_as}
use Rattle.text.specs.Words.{ascii}
use Rattle.command.specs.declared.Command.{Command}
use Rattle.command_words.specs.Commands.{command_text}
use Rattle.command_words.proofs.put_command.Goals as goal

pub returns-in-Servo : goal.returns-in-Servo
unfolding command_text
returns-in-Servo c = adds_as (λ (k : Command). command_text k ++ ascii "\n") _ _ c.in-Servo.is c.put_numbers-in-Servo.ensures
