-- The kinds of records, and where a host writes, by their numbers.
use Rattle.std.specs.Prelude.{ℕ, cond, eqb, Result, Ok, Err}
use Rattle.script.specs.declared.kinds.Kind.{Kind}
use Rattle.script.specs.declared.kinds.Kind.TheVariants.{End, Message, Timer, Done, Dump, Fresh, Snap, Compare, Poke, Write, Move}
use Rattle.script.specs.declared.kinds.Stop.{Stop}
use Rattle.script.specs.declared.kinds.Stop.TheVariants.{Bad}
use Rattle.script.specs.declared.kinds.Target.{Target}
use Rattle.script.specs.declared.kinds.Target.TheVariants.{Words, Plan, OtherHalf, Old}
use Rattle.script.specs.declared.kinds.UnknownTarget.{UnknownTarget}

-- MESSAGE 1, TIMER 2, DONE 3, DUMP 4, FRESH 5, SNAP 6, CMP 7, POKE 8, WRITE 9, MOVE 18; "A script .. ends with a record 0". No other number is a kind.
abbrev pub kind_of : ℕ → Result Kind Stop
kind_of n =
    cond (eqb n 0) (Ok End)
    (cond (eqb n 1) (Ok Message)
    (cond (eqb n 2) (Ok Timer)
    (cond (eqb n 3) (Ok Done)
    (cond (eqb n 4) (Ok Dump)
    (cond (eqb n 5) (Ok Fresh)
    (cond (eqb n 6) (Ok Snap)
    (cond (eqb n 7) (Ok Compare)
    (cond (eqb n 8) (Ok Poke)
    (cond (eqb n 9) (Ok Write)
    (cond (eqb n 18) (Ok Move)
    (Err (Bad n))))))))))))

-- "b4 = 0 writes from word a .. b4 = 1: from item a of the plan of kind b0, in the half that the plan is in; b4 = 2: the same place in the other half ..
-- b4 = 3: the old byte array B"
abbrev pub target_of : ℕ → Result Target UnknownTarget
target_of n =
    cond (eqb n 0) (Ok Words)
    (cond (eqb n 1) (Ok Plan)
    (cond (eqb n 2) (Ok OtherHalf)
    (cond (eqb n 3) (Ok Old)
    (Err (record {})))))
