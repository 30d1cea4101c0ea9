-- The code's commands and the rules': the same cases with the same values.
use Rattle.std.specs.Prelude.{◌≡◌, refl}
use Rattle.rules.specs.NextCommand.{fly, wait, near, turn, speed, servo, finished, stuck}
use Rattle.rules.specs.NextCommand as rules
use Rattle.command.specs.declared.Command.{Command}
use Rattle.command.specs.declared.Command.TheVariants.{Fly, Wait, Near, Turn, Speed, Servo, Finished, Stuck}

-- the rules' command for each case of the answer
abbrev pub order_of : Command → rules.Command
order_of (Fly n) = fly n
order_of (Wait n seconds) = wait n seconds
order_of (Near n metres) = near n metres
order_of (Turn n degrees) = turn n degrees
order_of (Speed n value) = speed n value
order_of (Servo n channel pulse) = servo n channel pulse
order_of Finished = finished
order_of Stuck = stuck

-- and the other way round
abbrev pub command_for : rules.Command → Command
command_for (fly n) = Fly n
command_for (wait n seconds) = Wait n seconds
command_for (near n metres) = Near n metres
command_for (turn n degrees) = Turn n degrees
command_for (speed n value) = Speed n value
command_for (servo n channel pulse) = Servo n channel pulse
command_for finished = Finished
command_for stuck = Stuck

pub order_for : (c : rules.Command) → order_of (command_for c) ≡ c
order_for (fly n) = refl
order_for (wait n seconds) = refl
order_for (near n metres) = refl
order_for (turn n degrees) = refl
order_for (speed n value) = refl
order_for (servo n channel pulse) = refl
order_for finished = refl
order_for stuck = refl
