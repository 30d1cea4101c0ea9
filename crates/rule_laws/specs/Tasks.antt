-- What the range test says of an upload's task and next number, whole or partial: first <= next <= last < count.
use Rattle.std.specs.Prelude.{ℕ, ◌+◌, ◌-◌, ◌≤◌, ◌<◌, ◌≡◌, refl, Bool, true, false, ◌&&◌, eqb, leb, ltb}
use Rattle.std.proofs.Common.{arith, sym, true≢false, eqb-true, leb-true, ltb-true}
use Rattle.rules.specs.Limits.{size_of, max_repeats}
use Rattle.rules.specs.Model.{Task, Run, running, expected, task_in_range, upload_in_range}
use Rattle.rule_laws.specs.Tests.{both}

pub record TaskRanges (len : ℕ) (t : Task) (next : ℕ) : Type 0 where
  pub begun : t.first ≤ next
  pub upto : next ≤ t.last
  pub inside : t.last < t.count
  -- of a part the count is the plan's length, and a whole upload brings every number below its count
  pub part : t.partial ≡ true → t.count ≡ len
  pub from_start : t.partial ≡ false → t.first ≡ 0
  pub to_end : t.partial ≡ false → t.last + 1 ≡ t.count

pub task_ranges : (len : ℕ) (t : Task) (next : ℕ) → task_in_range len t next ≡ true → TaskRanges len t next
unfolding task_in_range
task_ranges len t next e = go t.partial refl
  where
    go : (b : Bool) → t.partial ≡ b → TaskRanges len t next
    go true b =
        let same = eqb t.count len in
        let low = leb t.first next in
        let high = leb next t.last in
        let h : (same && low && high && ltb t.last t.count) ≡ true = rw b at e in
        let three = both (same && low && high) (ltb t.last t.count) h in
        let two = both (same && low) high three.0 in
        let one = both same low two.0 in
        record {
          begun = leb-true t.first next one.1;
          upto = leb-true next t.last two.1;
          inside = ltb-true t.last t.count three.1;
          part = λ p. eqb-true t.count len one.0;
          from_start = λ p. absurd (true≢false (rw b at p));
          to_end = λ p. absurd (true≢false (rw b at p));
        }
    go false b =
        let zeroth = eqb t.first 0 in
        let final = eqb t.last (t.count - 1) in
        let h : (zeroth && final && ltb next t.count) ≡ true = rw b at e in
        let two = both (zeroth && final) (ltb next t.count) h in
        let one = both zeroth final two.0 in
        let first : t.first ≡ 0 = eqb-true t.first 0 one.0 in
        let last : t.last ≡ t.count - 1 = eqb-true t.last (t.count - 1) one.1 in
        let below : next < t.count = ltb-true next t.count two.1 in
        record {
          begun = omega arith;
          upto = omega arith;
          inside = omega arith;
          part = λ p. absurd (true≢false (sym (rw b at p)));
          from_start = λ p. first;
          to_end = λ p. omega arith;
        }

-- the upload of a kind whose plan has `len` items
pub record RunRanges (kind len : ℕ) (r : Run) : Type 0 where
  pub most : r.task.count ≤ size_of kind
  pub task : TaskRanges len r.task (expected r)

pub run_ranges : (kind len : ℕ) (r : Run) → upload_in_range kind len (running r) ≡ true → RunRanges kind len r
unfolding upload_in_range
run_ranges kind len r e =
    let some = leb 1 r.task.count in
    let most = leb r.task.count (size_of kind) in
    let task = task_in_range len r.task (expected r) in
    let front = (both (some && most && task) (leb r.repeats max_repeats) e).0 in
    record {
      most = leb-true r.task.count (size_of kind) (both some most (both (some && most) task front).0).1;
      task = task_ranges len r.task (expected r) (both (some && most) task front).1;
    }

-- the expected number is one of the kind's
pub next_below : (kind len : ℕ) (r : Run) → RunRanges kind len r → expected r < size_of kind
next_below kind len r h =
    let a = h.most in
    let b = h.task.upto in
    let c = h.task.inside in
    omega arith
