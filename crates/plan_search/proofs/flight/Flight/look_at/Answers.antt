-- An item that breaks the rules ends the search.
use mathlib.Core.Path.{◌≡◌, sym, ap, ◌∙◌}
use mathlib.Core.List.{List}
use mathlib.Core.Bool.{Bool, true}
use Prim.Native.Nat.{ℕ}
use borrow.Author.Tests.{ne_eqb}
use Rattle.std.specs.Prelude.{Result, Ok, Err, Some}
use Rattle.std.specs.Result.{is_err}
use Rattle.rules.specs.Limits.{flight, accepted}
use Rattle.rules.specs.Messages as rules
use Rattle.rules.specs.Items.{fault}
use Rattle.limits.specs.declared.Fault.{Fault}
use Rattle.limits.specs.Codes.{result_code, faulty}
use Rattle.item.specs.declared.Item.{Item}
use Rattle.item.specs.Patterns.{item_for, patterns, patterns_of}
use Rattle.command.specs.declared.Command.TheVariants.{Stuck}
use Rattle.plan_search.specs.declared.Met.TheVariants.{Ends}
use Rattle.plan_search.specs.Meeting.{look_as}
use Rattle.plan_search.proofs.flight.Flight.look_at.Goals as goal

no_acceptance : (r : Result (Unit {0}) Fault) → is_err r ≡ true → result_code r ≡ accepted → ⊥
no_acceptance (Ok v) e zero = cc
no_acceptance (Err f) e zero = faulty f zero

breaks : (home : Bool) (size : ℕ) (counts : List ℕ) (n j : ℕ) (item : Item) (i : rules.Item) (r : Result (Unit {0}) Fault) → item ≡ item_for i
    → result_code r ≡ fault home flight size n j (patterns item) → is_err r ≡ true → Some (Ends Stuck) ≡ look_as home size counts n j i
unfolding look_as
breaks home size counts n j item i r is ef e =
    let judged : result_code r ≡ fault home flight size n j i = ef ∙ ap (fault home flight size n j) (patterns_of is) in
    rw (← judged, ne_eqb (result_code r) accepted (no_acceptance r e))

pub returns-then-is_err : goal.returns-then-is_err
returns-then-is_err c = breaks _ _ _ _ _ _ _ _ c.fetch-plain.ensures c.verdict.ensures (sym c.if-is_err.ensures.value)
