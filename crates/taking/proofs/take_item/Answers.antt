-- The range of the upload's numbers is that of the run; what is judged decides the step.
use mathlib.Core.Path.{◌≡◌, ◌∙◌, sym, ap}
use mathlib.Core.Bool.{Bool, true, ◌&&◌}
use Prim.Native.Nat.{ℕ, ◌≤◌}
use lib.Dec.{leb}
use borrow.Author.Tests.{leb-true}
use Rattle.std.specs.Prelude.{Option, Some, Result}
use Rattle.rules.specs.Messages.{Station, Item}
use Rattle.limits.specs.Kinds.{kind_number}
use Rattle.places.specs.Forms.{Store, words}
use Rattle.plan.specs.declared.Plan.{Plan}
use Rattle.upload.specs.declared.Turned.{Turned}
use Rattle.upload.specs.Turns.{item_turned, valid_item_turned}
use Rattle.taking.specs.Judging.{judged_as, turned_as, turned_judged}
use Rattle.rules.specs.Limits.{size_of, max_repeats}
use Rattle.rules.specs.Model.{task_in_range}
use Rattle.rule_laws.specs.Tests.{both}
use Rattle.rule_laws.specs.Tasks.{TaskRanges, task_ranges}
use Rattle.plan.specs.declared.Run.{Run}
use Rattle.plan.specs.View.{task_in}
use Rattle.ranges.specs.Ranges.{run_ranged}
use Rattle.taking.proofs.take_item.Goals as goal

-- what the range of a running upload tells, beside a plan of `len` items
count_within : (size len : ℕ) (r : Run) → run_ranged size len r ≡ true → r.count ≤ size
count_within size len r e =
    let some = leb 1 r.count in
    let within = leb r.count size in
    let task = task_in_range len (task_in r) r.next in
    leb-true r.count size (both some within (both (some && within) task (both (some && within && task) (leb r.repeats max_repeats) e).0).0).1

ranges : (size len : ℕ) (r : Run) → run_ranged size len r ≡ true → TaskRanges len (task_in r) r.next
ranges size len r e =
    let fits = leb 1 r.count && leb r.count size in
    let task = task_in_range len (task_in r) r.next in
    task_ranges len (task_in r) r.next (both fits task (both (fits && task) (leb r.repeats max_repeats) e).0).1

pub invariant_of-upload : goal.invariant_of-upload
invariant_of-upload c =
    let p = c.args.plan in
    let r = c.in-Some.run' in
    let size = size_of (kind_number c.args.kind) in
    let ranged : run_ranged size p.len r ≡ true = rw c.in-Some.is at c.requires.1 in
    let t = ranges size p.len r ranged in
    record {
      fits = count_within size p.len r ranged;
      begun = t.begun;
      upto = t.upto;
      inside = t.inside;
      from_start = t.from_start;
    }

module _ (home : Bool) (s : Store) (kind : ℕ) (p : Plan) (r : Run) (from : Station) (now : ℕ) (item : Item) (is : p.upload ≡ Some r) where
  step : (j : Result (Unit {0}) Turned) → j ≡ judged_as home s kind p r from item → item_turned words home s kind p.upload p from now item ≡ turned_as j s kind p r now item
  step j e =
      ap (λ (u : Option Run). item_turned words home s kind u p from now item) is
      ∙ turned_judged home s kind (Some r) p from now item
      ∙ ap (λ (x : Result (Unit {0}) Turned). turned_as x s kind p r now item) (sym e)

pub returns-in-Err : goal.returns-in-Err
returns-in-Err c = sym (step _ _ _ _ _ _ _ _ c.in-Some.is _ (sym c.in-Err.is ∙ c.judge.ensures))

pub returns : goal.returns
returns c =
    let a = c.args in
    c.valid_turn.ensures
    ∙ ap (λ (s : Store). valid_item_turned words s (kind_number a.kind) a.plan c.in-Some.run' a.clock) c.keep.ensures.0
    ∙ sym (step _ _ _ _ _ _ _ _ c.in-Some.is _ (sym c.in_default-judge.is ∙ c.judge.ensures))
