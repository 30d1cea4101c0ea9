-- The search as the code holds it, jump after jump.
use Rattle.std.specs.Prelude.{ℕ, zero, suc, ◌+◌, ◌≡◌, refl, List, Bool, cond, get_or, set, ℤ, pos, negsuc}
use Rattle.std.specs.Option.{option_map_or}
use Rattle.std.proofs.Common.{sym, ap, ◌∙◌}
use Rattle.rules.specs.Payload.{Bytes}
use Rattle.rules.specs.Messages.{Item}
use Rattle.rules.specs.NextCommand.{command_of, target_of, repeat_of, runs_after, ends, stands, follows, search_from, settle, counts_after, nowhere, found, stuck}
use Rattle.rules.specs.NextCommand as rules
use Rattle.plan_search.specs.declared.Met.{Met}
use Rattle.plan_search.specs.declared.Met.TheVariants.{Ends, Stands, Follows}
use Rattle.next_command.specs.declared.find.Found.{Found}
use Rattle.next_command.specs.declared.find.Stand.{Stand}
use Rattle.plan_search.specs.Orders.{order_of, order_for}
use Rattle.plan_search.specs.Meeting.{met_for, is_counted}

-- what a search finds
abbrev pub found_of : Found → rules.Found
found_of f = option_map_or (λ (s : Stand). found s.n s.counts (order_of f.command)) f.stand (nowhere (order_of f.command))

-- what it finds where no further jump may be followed
abbrev pub settled_as : Met → (counts : List ℕ) → rules.Found
settled_as (Ends c) counts = nowhere (order_of c)
settled_as (Stands n c) counts = found n counts (order_of c)
settled_as (Follows j target counted) counts = nowhere stuck

-- "c goes up by one unless r is -1"
abbrev pub counted_as : List ℕ → (j : ℕ) (counted : Bool) → List ℕ
counted_as counts j counted = set counts j (cond counted (get_or counts j 0 + 1) (get_or counts j 0))

runs_are : (r : ℤ) (c : ℕ) → runs_after r c ≡ cond (is_counted r) (c + 1) c
unfolding runs_after is_counted
runs_are (pos r) c = refl
runs_are (negsuc r) c = refl

-- the end of a search
pub settles_last : (home : Bool) (items : List Bytes) (counts : List ℕ) (n : ℕ) (met : Met) → met ≡ met_for (search_from home items counts n)
    → settled_as met counts ≡ rules.search home zero items counts n
unfolding rules.search settle
settles_last home items counts n met e = ap (λ (m : Met). settled_as m counts) e ∙ go (search_from home items counts n)
  where
    go : (m : rules.Met) → settled_as (met_for m) counts ≡ settle m counts (λ (j : ℕ) (item : Item). nowhere stuck)
    go (ends c) = ap nowhere (order_for c)
    go (stands k item) = ap (found k counts) (order_for (command_of k item))
    go (follows j item) = refl

-- what ends a search earlier: everything but a jump
pub settles_sooner : (home : Bool) (left : ℕ) (items : List Bytes) (counts : List ℕ) (n : ℕ) (met : Met) → met ≡ met_for (search_from home items counts n)
    → ((j target : ℕ) (counted : Bool) → met ≡ Follows j target counted → ⊥) → settled_as met counts ≡ rules.search home (suc left) items counts n
unfolding rules.search settle
settles_sooner home left items counts n met e none = ap (λ (m : Met). settled_as m counts) e ∙ go (search_from home items counts n) e
  where
    go : (m : rules.Met) → met ≡ met_for m
        → settled_as (met_for m) counts ≡ settle m counts (λ (j : ℕ) (item : Item). rules.search home left items (counts_after counts j item) (target_of item))
    go (ends c) h = ap nowhere (order_for c)
    go (stands k item) h = ap (found k counts) (order_for (command_of k item))
    go (follows j item) h = absurd (none j (target_of item) (is_counted (repeat_of item)) h)

-- a jump that is followed
pub follows_on : (home : Bool) (left : ℕ) (items : List Bytes) (counts : List ℕ) (n : ℕ) (met : Met) (j target : ℕ) (counted : Bool) → met ≡ met_for (search_from home items counts n)
    → met ≡ Follows j target counted → rules.search home (suc left) items counts n ≡ rules.search home left items (counted_as counts j counted) target
unfolding rules.search settle
follows_on home left items counts n met j target counted e is = go (search_from home items counts n) (sym is ∙ e)
  where
    go : (m : rules.Met) → Follows j target counted ≡ met_for m
        → settle m counts (λ (k : ℕ) (item : Item). rules.search home left items (counts_after counts k item) (target_of item)) ≡ rules.search home left items (counted_as counts j counted) target
    go (ends c) h = cc
    go (stands k item) h = cc
    go (follows k item) h =
        let ek : k ≡ j = cc in
        let et : target_of item ≡ target = cc in
        let ec : is_counted (repeat_of item) ≡ counted = cc in
        ap (λ (c : ℕ). rules.search home left items (set counts k c) (target_of item)) (runs_are (repeat_of item) (get_or counts k 0))
        ∙ ap (λ (b : Bool). rules.search home left items (counted_as counts k b) (target_of item)) ec
        ∙ ap (λ (i : ℕ). rules.search home left items (counted_as counts i counted) (target_of item)) ek
        ∙ ap (rules.search home left items (counted_as counts j counted)) et
