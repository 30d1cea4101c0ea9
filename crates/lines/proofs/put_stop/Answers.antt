-- `lines::put_stop` meets its contract, of a record that is cut; the check finds the rest.
use Rattle.std.proofs.Common.{◌≡◌, Err, rules}
use Rattle.adding.specs.Laws.{adds_as}
use Rattle.script.specs.declared.kinds.Stop.TheVariants.{Cut}
use Rattle.lines.specs.Lines.{stop_text}
use Rattle.lines.proofs.put_stop.Goals as goal

pub returns-in-Err-Cut : goal.returns-in-Err-Cut
unfolding stop_text
returns-in-Err-Cut g c = let cut : c.args.next ≡ Err Cut = search rules in adds_as stop_text _ _ cut c.put.ensures
