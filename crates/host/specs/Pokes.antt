-- A number of the state that a host sets, by its field and index: POKE of a call script. "b4 is the field, b0 the index, a the new value."
use Rattle.std.specs.Prelude.{ℕ, ◌%◌, false, not, ◌&&◌, cond, List, eqb, leb, ltb, get_or, set, Option, Some, None}
use Rattle.rules.specs.Limits.{rally, max_jumps}
use Rattle.plan.specs.declared.Plan.{Plan}
use Rattle.plan.specs.declared.Run.{Run}
use Rattle.plan.specs.declared.State.{State}
use Rattle.plan.specs.View.{empty_plan}

-- 4 and 5 the upload's station, 6 its count, 7 its next number, 8 its last start, 9 its repeats; "POKE fields 13 partial (0 or 1), 14 first, 15 last, index the
-- kind; 14 and 15 are 16 bits wide" (M-108)
unfoldable pub poked_run : Run → (field value : ℕ) → Run
poked_run r field v =
    record {
      from = record { system = cond (eqb field 4) (v % 256) r.from.system; component = cond (eqb field 5) (v % 256) r.from.component };
      count = cond (eqb field 6) (v % 65536) r.count;
      partial = cond (eqb field 13) (not (eqb v 0)) r.partial;
      first = cond (eqb field 14) (v % 65536) r.first;
      last = cond (eqb field 15) (v % 65536) r.last;
      next = cond (eqb field 7) (v % 65536) r.next;
      started = cond (eqb field 8) v r.started;
      repeats = cond (eqb field 9) (v % 256) r.repeats;
    }

-- an upload that starts has zeros
abbrev pub started : Run
started = record { from = record { system = 0; component = 0 }; count = 0; partial = false; first = 0; last = 0; next = 0; started = 0; repeats = 0 }

-- 3 whether an upload runs: one that runs keeps its numbers
unfoldable pub poked_upload : Option Run → (field value : ℕ) → Option Run
poked_upload None field v = cond (eqb field 3 && not (eqb v 0)) (Some started) None
poked_upload (Some r) field v = cond (eqb field 3 && eqb v 0) None (Some (poked_run r field v))

-- 0 the plan's length, 1 its number, 2 its half
unfoldable pub poked_plan : Plan → (field value : ℕ) → Plan
poked_plan p field v =
    record {
      len = cond (eqb field 0) (v % 65536) p.len;
      half = cond (eqb field 2) (eqb (v % 2) 1) p.half;
      number = cond (eqb field 1) v p.number;
      upload = poked_upload p.upload field v;
    }

-- of a plan the index is the kind; no other field is a plan's
unfoldable pub poked_plans : List Plan → (field index value : ℕ) → List Plan
poked_plans plans field index v = cond (leb index rally) (set plans index (poked_plan (get_or plans index empty_plan) field v)) plans

-- 12 a jump count
unfoldable pub poked_counts : List ℕ → (field index value : ℕ) → List ℕ
poked_counts counts field index v = cond (eqb field 12 && ltb index max_jumps) (set counts index (v % 65536)) counts

-- 10 the current item, 11 whether it is begun
unfoldable pub poked_state : State → (field index value : ℕ) → State
poked_state st field index v =
    record {
      plans = poked_plans st.plans field index v;
      current = cond (eqb field 10) (v % 65536) st.current;
      begun = cond (eqb field 11) (not (eqb v 0)) st.begun;
      home = st.home;
      counts = poked_counts st.counts field index v;
    }
