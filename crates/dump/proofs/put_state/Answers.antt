-- `dump::put_state` meets its contract: kind by kind, then what is current.
use Rattle.adding.specs.Laws.{adds_both}
use Rattle.dump.specs.Dumps.{state_text}
use Rattle.dump.proofs.put_state.Goals as goal

pub returns : goal.returns
unfolding state_text
returns c =
    adds_both c.put_kind.ensures (adds_both c.put_kind-2.ensures (adds_both c.put_kind-3.ensures (adds_both c.put_current.ensures c.put_home.ensures)))
