-- What a search meets, as the code holds it, and one item of it; the rules' `meets` is a look at each item in turn.
use Rattle.std.specs.Prelude.{ℕ, suc, ◌<◌, ◌≡◌, refl, List, [], ◌∷◌, Bool, true, false, not, cond, get_or, ℤ, pos, negsuc, eqb, Option, None, Some, unwrap_or}
use Rattle.std.proofs.Common.{sym, subst, true≢false, eqb-true}
use Rattle.std.proofs.lemmas.Bool.{not-false}
use Rattle.rules.specs.Limits.{flight, max_runs, max_jumps, accepted}
use Rattle.rules.specs.Payload.{Bytes}
use Rattle.rules.specs.Messages.{Item, item_in}
use Rattle.rules.specs.Values.{whole_of, float}
use Rattle.rules.specs.Items.{is_jump, fault}
use Rattle.rules.specs.NextCommand.{command_of, target_of, repeat_of, passed_over, ends, stands, follows, meets}
use Rattle.rules.specs.NextCommand as rules
use Rattle.rule_laws.specs.Valid.{Repeats, valid_jump, target_below, runs_below}
use Rattle.command.specs.declared.Command.TheVariants.{Stuck}
use Rattle.plan_search.specs.declared.Met.{Met}
use Rattle.plan_search.specs.declared.Met.TheVariants.{Ends, Stands, Follows}
use Rattle.plan_search.specs.Orders.{command_for}

-- "c goes up by one unless r is -1"
unfoldable pub is_counted : ℤ → Bool
is_counted (pos r) = true
is_counted (negsuc r) = false

abbrev pub met_for : rules.Met → Met
met_for (ends c) = Ends (command_for c)
met_for (stands n item) = Stands n (command_for (command_of n item))
met_for (follows j item) = Follows j (target_of item) (is_counted (repeat_of item))

-- what a search meets at jump number j, with a repeat and a target, after some runs: nothing where it is passed over
unfoldable pub jump_as : ℤ → (target j runs : ℕ) → Option Met
jump_as repeat target j runs = cond (passed_over repeat runs) None (Some (Follows j target (is_counted repeat)))

-- what a search meets at an item
unfoldable pub look_as : (home : Bool) (size : ℕ) (counts : List ℕ) (n j : ℕ) → Item → Option Met
look_as home size counts n j item =
    cond (not (eqb (fault home flight size n j item) accepted)) (Some (Ends Stuck))
    (cond (not (is_jump item)) (Some (Stands n (command_for (command_of n item))))
    (jump_as (repeat_of item) (target_of item) j (get_or counts j 0)))

pub meets_one : (home : Bool) (size : ℕ) (counts : List ℕ) (b : Bytes) (rest : List Bytes) (n j : ℕ)
    → met_for (meets home size counts (b ∷ rest) n j) ≡ unwrap_or (look_as home size counts n j (item_in b)) (met_for (meets home size counts rest (suc n) (suc j)))
unfolding meets look_as jump_as
meets_one home size counts b rest n j =
    go (not (eqb (fault home flight size n j (item_in b)) accepted)) (not (is_jump (item_in b))) (passed_over (repeat_of (item_in b)) (get_or counts j 0))
  where
    go : (broken other over : Bool)
        → met_for (cond broken (ends rules.stuck) (cond other (stands n (item_in b)) (cond over (meets home size counts rest (suc n) (suc j)) (follows j (item_in b)))))
        ≡ unwrap_or (cond broken (Some (Ends Stuck)) (cond other (Some (Stands n (command_for (command_of n (item_in b)))))
        (cond over None (Some (Follows j (target_of (item_in b)) (is_counted (repeat_of (item_in b))))))))
        (met_for (meets home size counts rest (suc n) (suc j)))
    go true other over = refl
    go false true over = refl
    go false false true = refl
    go false false false = refl

-- a run that is counted is one of at most 32767
counted_below : (r : ℤ) (c : ℕ) → Repeats r → passed_over r c ≡ false → is_counted r ≡ true → c < max_runs
unfolding is_counted
counted_below (pos r) c valid over counted = runs_below r c valid over
counted_below (negsuc r) c valid over counted = absurd (true≢false (sym counted))

-- a jump to follow is one of the plan's fifteen, has its target in the plan, and a run of it that is counted is one of at most 32767
pub record Followed (size : ℕ) (counts : List ℕ) (j target : ℕ) (counted : Bool) : Type 0 where
  pub room : j < max_jumps
  pub inside : target < size
  pub runs : counted ≡ true → get_or counts j 0 < max_runs

follows_one : (home : Bool) (size : ℕ) (counts : List ℕ) (n j : ℕ) (i : Item) → not (eqb (fault home flight size n j i) accepted) ≡ false → not (is_jump i) ≡ false
    → passed_over (repeat_of i) (get_or counts j 0) ≡ false → Followed size counts j (target_of i) (is_counted (repeat_of i))
follows_one home size counts n j i ok is over =
    let valid = valid_jump home size n j i (eqb-true (fault home flight size n j i) accepted (not-false (eqb (fault home flight size n j i) accepted) ok)) (not-false (is_jump i) is) in
    record {
      room = valid.room;
      inside = target_below home size n (whole_of (float i.param1)) valid.target;
      runs = counted_below (repeat_of i) (get_or counts j 0) valid.repeats over;
    }

-- a constructor's arguments out of it
same_followed : {size : ℕ} {counts : List ℕ} {j t k u : ℕ} {b c : Bool} → Follows j t b ≡ Follows k u c → Followed size counts j t b → Followed size counts k u c
same_followed {size} {counts} {j} {t} {k} {u} {b} {c} e f =
    let ej : j ≡ k = cc in
    let et : t ≡ u = cc in
    let eb : b ≡ c = cc in
    subst (λ (x : ℕ). Followed size counts x u c) ej (subst (λ (x : ℕ). Followed size counts j x c) et (subst (λ (x : Bool). Followed size counts j t x) eb f))

pub follows_known : (home : Bool) (size : ℕ) (counts : List ℕ) (rest : List Bytes) (n i : ℕ) {j t : ℕ} {c : Bool}
    → met_for (meets home size counts rest n i) ≡ Follows j t c → Followed size counts j t c
unfolding meets
follows_known home size counts [] n i e = cc
follows_known home size counts (b ∷ rest) n i {j} {t} {c} e =
    go (not (eqb (fault home flight size n i (item_in b)) accepted)) (not (is_jump (item_in b))) (passed_over (repeat_of (item_in b)) (get_or counts i 0)) refl refl refl
    (follows_known home size counts rest (suc n) (suc i)) e
  where
    go : (broken other over : Bool) → not (eqb (fault home flight size n i (item_in b)) accepted) ≡ broken → not (is_jump (item_in b)) ≡ other
        → passed_over (repeat_of (item_in b)) (get_or counts i 0) ≡ over
        → (met_for (meets home size counts rest (suc n) (suc i)) ≡ Follows j t c → Followed size counts j t c)
        → met_for (cond broken (ends rules.stuck) (cond other (stands n (item_in b)) (cond over (meets home size counts rest (suc n) (suc i)) (follows i (item_in b))))) ≡ Follows j t c
        → Followed size counts j t c
    go true other over eb eo ev later h = cc
    go false true over eb eo ev later h = cc
    go false false true eb eo ev later h = later h
    go false false false eb eo ev later h = same_followed h (follows_one home size counts n i (item_in b) eb eo ev)

-- a jump that is passed over is one of the plan's fifteen
pub over_room : (home : Bool) (size : ℕ) (counts : List ℕ) (n j : ℕ) (i : Item) → look_as home size counts n j i ≡ None → j < max_jumps
unfolding look_as
over_room home size counts n j i = go (eqb (fault home flight size n j i) accepted) (is_jump i) refl refl
  where
    go : (fine is : Bool) → eqb (fault home flight size n j i) accepted ≡ fine → is_jump i ≡ is
        → cond (not fine) (Some (Ends Stuck)) (cond (not is) (Some (Stands n (command_for (command_of n i)))) (jump_as (repeat_of i) (target_of i) j (get_or counts j 0))) ≡ None
        → j < max_jumps
    go false is ef ei h = cc
    go true false ef ei h = cc
    go true true ef ei h = (valid_jump home size n j i (eqb-true (fault home flight size n j i) accepted ef) ei).room
