-- What is met from an item on is what a look at it tells, and else what is met from the next; past the last item the plan ends. So the first look
-- that tells something tells what is met from the first item on.
use Prim.Native.Nat.{ℕ, zero, suc, ◌+◌, ◌-◌, ◌≤◌, ◌<◌}
use native.Mathlib.Omega.{arith}
use native.Mathlib.Decide.{dec_le}
use native.Mathlib.Numerals.{add-one}
use mathlib.Core.Path.{◌≡◌, sym, ap, subst, ◌∙◌}
use mathlib.Core.List.{List}
use mathlib.Core.Bool.{Bool, true}
use lib.ListN.{drop, drop_of_length-le}
use denote.Param.Members.{Mut}
use borrow.Author.Rules.{rules}
use Rattle.std.specs.Prelude.{Option, None, Some, IfSome, IsSomeAnd, unwrap_or}
use Rattle.std.specs.Option.{MatchOption, option_map}
use Rattle.std.specs.Fn.{Called}
use Rattle.std.specs.Iterator.Runs.{Run, CallKeepsClosure, AllItemsGive, IsFirstToGive, ItemsCountUp}
use Rattle.std.proofs.iter.Yields.{nat_range_steps}
use Rattle.std.proofs.iter.runs.Sources.{range_runs}
use Rattle.std.specs.declared.ops.Range.{Range}
use Rattle.rules.specs.Payload.{Bytes}
use Rattle.rules.specs.Messages.{item_in}
use Rattle.rules.specs.NextCommand.{meets}
use Rattle.limits.specs.Kinds.{kind_number}
use Rattle.places.specs.KindItems.{item_with, first_items}
use Rattle.places.specs.declared.items.Items.{Items}
use Rattle.command.specs.declared.Command.TheVariants.{Finished}
use Rattle.plan_search.specs.declared.Met.{Met}
use Rattle.plan_search.specs.declared.Met.TheVariants.{Ends}
use Rattle.plan_search.specs.PlanItems.{items_long, items_from}
use Rattle.plan_search.specs.Meeting.{met_for, look_as, meets_one}
use Rattle.plan_search.proofs.flight.Flight.scan.Goals as goal

module _ (home : Bool) (items : Items) (len : ℕ) (counts : List ℕ) (from before : ℕ) where
  -- what is met from item n on
  abbrev met_from : (n : ℕ) → Met
  met_from n = met_for (meets home len counts (drop n (first_items items len)) n (before + (n - from)))

  -- a look at item n
  abbrev look : (n : ℕ) → Option Met
  look n = look_as home len counts n (before + (n - from)) (item_in (item_with items n))

  one_step : (n : ℕ) → from ≤ n → n < len → met_from n ≡ unwrap_or (look n) (met_from (n + 1))
  one_step n above below =
      let next : suc (before + (n - from)) ≡ before + (n + 1 - from) = omega arith in
      ap (λ (l : List Bytes). met_for (meets home len counts l n (before + (n - from)))) (items_from items.store.now items.half (kind_number items.kind) len n below)
      ∙ meets_one home len counts (item_with items n) (drop (suc n) (first_items items len)) n (before + (n - from))
      ∙ ap (λ (j : ℕ). unwrap_or (look n) (met_for (meets home len counts (drop (suc n) (first_items items len)) (suc n) j))) next
      ∙ ap (λ (k : ℕ). unwrap_or (look n) (met_for (meets home len counts (drop k (first_items items len)) k (before + (n + 1 - from))))) (sym (add-one n))

  at_end : (n : ℕ) → len ≤ n → Ends Finished ≡ met_from n
  unfolding meets
  at_end n past =
      sym
      (ap (λ (l : List Bytes). met_for (meets home len counts l n (before + (n - from))))
      (drop_of_length-le (first_items items len) {i = n} (omega (arith, items_long items len))))

  -- items that tell nothing are passed
  passed : (m : ℕ) → from + m ≤ len → ((k : ℕ) → k < m → look (from + k) ≡ None) → met_from from ≡ met_from (from + m)
  passed zero most none = ap met_from (omega arith)
  passed (suc m) most none =
      passed m (omega arith) (λ k below. none k (omega arith))
      ∙ one_step (from + m) (omega arith) (omega arith)
      ∙ ap (λ (l : Option Met). unwrap_or l (met_from (from + m + 1))) (none m (omega arith))
      ∙ ap met_from (omega arith)

  module _ {F : Type 0} (g : Mut F (ℕ × Unit {0}) (Option Met)) (f : F) (looks : (n : ℕ) (r : Option Met) (q : F) → Called g f (n, tt) r q → r ≡ look n) (keeps : CallKeepsClosure g f)
      (p : Run nat_range_steps) (at : p.from ≡ record { start = from; end = len }) where
    up : ItemsCountUp p from len
    up = subst (λ (s : Range ℕ). ItemsCountUp p s.start s.end) at (range_runs p p.seen)

    at_place : (k : ℕ) → k < p.len → p.at k ≡ Some (from + k)
    at_place k below = go (p.at k) (up.3 k below)
      where
        go : (o : Option ℕ) → option_map (λ y. y) o ≡ Some (from + k) → o ≡ Some (from + k)
        go None e = e
        go (Some x) e = e

    found : (r : Option Met)
        → MatchOption r ((p.whole ≡ true) × AllItemsGive p g f None) (λ y. (i : ℕ) × (i < p.len) × (p.len ≡ i + 1) × IsFirstToGive p g f (Some y) None i)
        → unwrap_or r (Ends Finished) ≡ met_from from
    found None d =
        let long : p.len ≡ len - from = up.1 d.0 in
        let none : (k : ℕ) → k < p.len → look (from + k) ≡ None =
        λ k below. sym (looks (from + k) None f (subst (λ (o : Option ℕ). IfSome o (λ x. Called g f (x, tt) None f)) (at_place k below) (d.1 keeps k))) in
        go (dec_le from len) long none
      where
        go : Dec (from ≤ len) → p.len ≡ len - from → ((k : ℕ) → k < p.len → look (from + k) ≡ None) → Ends Finished ≡ met_from from
        go (yes inside) long' none' = at_end (from + p.len) (omega arith) ∙ sym (passed p.len (omega arith) none')
        go (no past) long' none' = at_end from (omega arith)
    found (Some y) d =
        let i = d.0 in
        let first = d.3 keeps in
        let none : (k : ℕ) → k < i → look (from + k) ≡ None =
        λ k below. sym (looks (from + k) None f (subst (λ (o : Option ℕ). IsSomeAnd o (λ x. Called g f (x, tt) None f)) (at_place k (omega (arith, d.1))) (first.1 k below))) in
        let hit : Some y ≡ look (from + i) =
        looks (from + i) (Some y) f (subst (λ (o : Option ℕ). IsSomeAnd o (λ x. Called g f (x, tt) (Some y) f)) (at_place i d.1) first.0) in
        let inside : from + i < len = omega (arith, up.0, d.1) in
        ap (λ (l : Option Met). unwrap_or l (met_from (from + i + 1))) hit
        ∙ sym (passed i (omega arith) none ∙ one_step (from + i) (omega arith) inside)

pub returns : goal.returns
returns c =
    let d = c.find_map.ensures.runs in
    let s = c.args.self in
    c.unwrap_or.ensures
    ∙ found s.home s.items s.len c.args.counts c.args.from c.args.before _ _ (λ n r q k. search rules) (λ a r q k. search rules) d.0 d.1 c.find_map.result d.2
    ∙ ap (λ (j : ℕ). met_for (meets s.home s.len c.args.counts (drop c.args.from (first_items s.items s.len)) c.args.from j)) (omega arith)
