-- The jumps before item n are those among the plan's items before it; past the plan's end nothing is met, whatever stands before.
use Prim.Native.Nat.{ℕ, suc, ◌≤◌, ◌<◌}
use native.Mathlib.Omega.{arith}
use native.Mathlib.Decide.{dec_lt}
use mathlib.Core.Path.{◌≡◌, sym, ap, ◌∙◌}
use mathlib.Core.List.{List, [], ◌∷◌}
use mathlib.Core.Bool.{Bool, true, false, cond}
use lib.ListN.{take, drop, length, drop_of_length-le}
use borrow.Author.Rules.{rules}
use Rattle.rules.specs.Payload.{Bytes}
use Rattle.rules.specs.Messages.{item_in}
use Rattle.rules.specs.Items.{is_jump, jumps_among}
use Rattle.rules.specs.NextCommand.{meets, search_from}
use Rattle.limits.specs.Kinds.{kind_number}
use Rattle.places.specs.KindItems.{first_items}
use Rattle.places.specs.declared.items.Items.{Items}
use Rattle.plan_search.specs.declared.Met.{Met}
use Rattle.plan_search.specs.PlanItems.{items_long, items_until}
use Rattle.plan_search.specs.Meeting.{met_for}
use Rattle.plan_search.proofs.flight.Flight.meet.Goals as goal

module _ (home : Bool) (items : Items) (len : ℕ) (counts : List ℕ) (n before : ℕ) (eb : before ≡ jumps_among (first_items items n)) where
  from_there : meets home len counts (drop n (first_items items len)) n before ≡ search_from home (first_items items len) counts n
  unfolding meets
  from_there = go (dec_lt len n)
    where
      go : Dec (len < n) → meets home len counts (drop n (first_items items len)) n before ≡ search_from home (first_items items len) counts n
      go (no most) =
          ap (meets home len counts (drop n (first_items items len)) n) (eb ∙ ap jumps_among (sym (items_until items.store.now items.half (kind_number items.kind) len n (omega arith))))
          ∙ ap (λ (size : ℕ). meets home size counts (drop n (first_items items len)) n (jumps_among (take n (first_items items len)))) (sym (items_long items len))
      go (yes past) = rw (drop_of_length-le (first_items items len) {i = n} (omega (arith, items_long items len)))

  met_there : (met : Met) → met ≡ met_for (meets home len counts (drop n (first_items items len)) n before) → met ≡ met_for (search_from home (first_items items len) counts n)
  met_there met e = e ∙ ap met_for from_there

-- there are no more jumps than items
among_most : (bs : List Bytes) → jumps_among bs ≤ length bs
unfolding jumps_among
among_most [] = omega arith
among_most (b ∷ bs) = go (is_jump (item_in b)) (among_most bs)
  where
    go : (t : Bool) → jumps_among bs ≤ length bs → cond t (suc (jumps_among bs)) (jumps_among bs) ≤ suc (length bs)
    go true h = omega (arith, h)
    go false h = omega (arith, h)

pub scan-requires : goal.scan-requires
scan-requires c =
    let most = among_most (first_items c.args.self.items c.args.n) in
    omega (arith, most, items_long c.args.self.items c.args.n, c.jumps-before.ensures)

pub returns : goal.returns
returns c = search (met_there, rules)
