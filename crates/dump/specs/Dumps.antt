-- The lines of a dump. "DUMP prints `D 15` alone if a number of the state is out of its range. Otherwise: .."
use Rattle.std.specs.Prelude.{ℕ, ◌%◌, Bool, cond, List, [], ◌∷◌, ◌++◌, eqb}
use Rattle.rules.specs.Limits.{flight, fence, rally}
use Rattle.rules.specs.Payload.{Bytes}
use Rattle.rules.specs.Model.{in_range}
use Rattle.places.specs.Forms.{Store}
use Rattle.plan.specs.declared.State.{State}
use Rattle.plan.specs.View.{plan_of, view}
use Rattle.text.specs.Words.{ascii}
use Rattle.text.specs.Digits.{spaced}
use Rattle.rows.specs.Rows.{begun, row}
use Rattle.dump.specs.Plans.{kind_text}

abbrev pub flag : Bool → ℕ
flag b = cond b 1 0

-- "`c CURRENT BEGUN C0 C1 .. C14`"
unfoldable pub current_line : (current : ℕ) (begun : Bool) (counts : List ℕ) → Bytes
current_line current is_begun counts = begun 99 (current ∷ flag is_begun ∷ []) ++ (spaced counts ++ ascii "\n")

-- (M-109) "With the setting DUMP ends with a line `h 1`; without it nothing more is printed"
unfoldable pub home_line : (home : Bool) → Bytes
home_line home = cond home (row 104 (1 ∷ [])) []

unfoldable pub state_text : (halves : Bool) → State → Store → Bytes
state_text halves st store =
    kind_text halves flight (plan_of st flight) store
    ++ (kind_text halves fence (plan_of st fence) store
    ++ (kind_text halves rally (plan_of st rally) store
    ++ (current_line st.current st.begun st.counts
    ++ home_line st.home)))

-- "Bit 0 of DUMP's b4 set: HALF is printed as `-`" (M-108): the options are that byte
unfoldable pub dump_text : (options : ℕ) → State → Store → Bytes
dump_text options st store = cond (in_range (view st store)) (ascii "D 0\n" ++ state_text (eqb (options % 2) 0) st store) (ascii "D 15\n")
