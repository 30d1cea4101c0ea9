-- The loop's invariant: the search from the start is the search from item n with the counts so far, in which as many jumps may still be
-- followed as the loop has turns left. What is met decides: a jump takes one turn, anything else ends the search.
use Prim.Native.Nat.{ℕ, zero, suc, ◌+◌, ◌-◌, ◌≤◌, ◌<◌}
use native.Mathlib.Omega.{arith}
use mathlib.Core.Path.{◌≡◌, sym, ap, subst, ◌∙◌}
use mathlib.Core.List.{List}
use mathlib.Core.Bool.{Bool}
use lib.ListN.{length, take, drop}
use Rattle.rules.specs.Limits.{max_followed}
use Rattle.rules.specs.Items.{jumps_among}
use Rattle.rules.specs.NextCommand.{search_from}
use Rattle.rules.specs.NextCommand as rules
use Rattle.plan_search.specs.PlanItems.{flight_items, items_long}
use Rattle.plan_search.specs.declared.flight.Flight.{Flight}
use Rattle.plan_search.specs.declared.Met.{Met}
use Rattle.plan_search.specs.declared.Met.TheVariants.{Follows}
use Rattle.next_command.specs.declared.find.Found.{Found}
use Rattle.plan_search.specs.Meeting.{met_for, Followed, follows_known}
use Rattle.next_command.specs.Finding.{found_of, settled_as, counted_as, settles_last, settles_sooner, follows_on}
use Rattle.next_command.proofs.find.find.Goals as goal

module _ (p : Flight) (runs : List ℕ) (n : ℕ) (met : Met) (meets : met ≡ met_for (search_from p.home (flight_items p) runs n)) where
  followed : (j target : ℕ) (up : Bool) → met ≡ Follows j target up → Followed p.len runs j target up
  followed j target up em =
      subst (λ (size : ℕ). Followed size runs j target up) (items_long p.items p.len)
      (follows_known p.home (length (flight_items p)) runs (drop n (flight_items p)) n (jumps_among (take n (flight_items p))) (sym meets ∙ em))

  module _ (all : rules.Found) (k : ℕ) (is : all ≡ rules.search p.home (max_followed - k) (flight_items p) runs n) where
    one_turn : k < max_followed → all ≡ rules.search p.home (suc (max_followed - (k + 1))) (flight_items p) runs n
    one_turn some = let e : max_followed - k ≡ suc (max_followed - (k + 1)) = omega arith in is ∙ ap (λ (i : ℕ). rules.search p.home i (flight_items p) runs n) e

    ends_sooner : k < max_followed → (r : Found) → ((j target : ℕ) (up : Bool) → met ≡ Follows j target up → ⊥) → found_of r ≡ settled_as met runs → found_of r ≡ all
    ends_sooner some r none er = er ∙ settles_sooner p.home (max_followed - (k + 1)) (flight_items p) runs n met meets none ∙ sym (one_turn some)

    goes_on : k < max_followed → (j target : ℕ) (up : Bool) (after : List ℕ) → met ≡ Follows j target up → after ≡ counted_as runs j up
        → all ≡ rules.search p.home (max_followed - (k + 1)) (flight_items p) after target
    goes_on some j target up after em ea =
        one_turn some
        ∙ follows_on p.home (max_followed - (k + 1)) (flight_items p) runs n met j target up meets em
        ∙ ap (λ (l : List ℕ). rules.search p.home (max_followed - (k + 1)) (flight_items p) l target) (sym ea)

    ends_last : max_followed ≤ k → (r : Found) → found_of r ≡ settled_as met runs → found_of r ≡ all
    ends_last past r er =
        let e : max_followed - k ≡ zero = omega arith in
        er ∙ settles_last p.home (flight_items p) runs n met meets ∙ sym (is ∙ ap (λ (i : ℕ). rules.search p.home i (flight_items p) runs n) e)

pub returns-in_default : goal.returns-in_default
returns-in_default c = ends_sooner c.args.plan _ _ _ c.meet-met.ensures _ _ c.loop.invariant.same c.loop-test.true _ c.in_default.not-Follows c.settled.ensures

pub counted-after-requires : goal.counted-after-requires
counted-after-requires c =
    let f = followed c.args.plan _ _ _ c.meet-met.ensures _ _ _ c.in-Follows.is in
    record { j_lt_max_jumps = f.room; j_bound = f.runs }

pub loop-preserved : goal.loop-preserved
loop-preserved c =
    let f = followed c.args.plan _ _ _ c.meet-met.ensures _ _ _ c.in-Follows.is in
    record {
      inside = omega (arith, f.inside);
      same = goes_on c.args.plan _ _ _ c.meet-met.ensures _ _ c.loop.invariant.same c.loop-test.true _ _ _ _ c.in-Follows.is c.counted-after.ensures;
    }

pub returns : goal.returns
returns c = ends_last c.args.plan _ _ _ c.meet.ensures _ _ c.loop.invariant.same c.loop-test.false _ c.settled-2.ensures
