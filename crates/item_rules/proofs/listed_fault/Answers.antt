-- The row that `row_of` lists is the one that the rules' table has for the command, and judging the item by it is the rule.
use Prim.Native.Nat.{ℕ}
use mathlib.Core.Path.{◌≡◌, sym, ap, ◌∙◌}
use mathlib.Core.Bool.{Bool, cond}
use borrow.Author.Tests.{eq-eqb, ne_eqb}
use Rattle.std.specs.Prelude.{Option, None, Some}
use Rattle.std.specs.Option.{option_map}
use Rattle.std.proofs.Common.{arith}
use Rattle.std.proofs.lemmas.Result.{err_from_is_err_and}
use Rattle.rules.specs.Limits.{unsupported}
use Rattle.rules.specs.Messages as rules
use Rattle.rules.specs.Items.{commands, fault_in, fault_among}
use Rattle.limits.specs.declared.Fault.TheVariants.{Unsupported}
use Rattle.limits.specs.Kinds.{kind_number}
use Rattle.item_rules.specs.declared.table.Row.{Row}
use Rattle.item_rules.specs.Table.{row_of, lookup}
use Rattle.item_rules.proofs.Lookup.{by_found, by_lookup}
use Rattle.item_rules.proofs.listed_fault.Goals as goal

module _
    (home : Bool)
    (kind count own jumps : ℕ)
    (i : rules.Item)
    (l : Option Row)
    (looked : option_map (row_of i.command) l ≡ lookup i.command (commands home))
  where
    abbrev Gives : ℕ → Type 0
    Gives f = f ≡ fault_among (commands home) kind count own jumps i

    by_row : {m : Option Row} → l ≡ m → Gives (by_found kind count own jumps i (option_map (row_of i.command) m))
    by_row e =
        ap (λ (x : Option Row). by_found kind count own jumps i (option_map (row_of i.command) x)) (sym e)
        ∙ ap (by_found kind count own jumps i) looked
        ∙ by_lookup kind count own jumps i (commands home)

    module _ (r : Row) (listed : l ≡ Some r) where
      abbrev judged : Bool → ℕ
      judged t = cond t (fault_in (row_of i.command r) count own jumps i) unsupported

      module _ (number : ℕ) (is : number ≡ kind_number r.kind) where
        in_kind : (f : ℕ) → number ≡ kind → f ≡ fault_in (row_of i.command r) count own jumps i → Gives f
        in_kind f k e = e ∙ ap judged (sym (eq-eqb (kind_number r.kind) kind (sym is ∙ k))) ∙ by_row listed

        of_another : (number ≡ kind → ⊥) → Gives unsupported
        of_another k = ap judged (sym (ne_eqb (kind_number r.kind) kind (λ e. k (is ∙ e)))) ∙ by_row listed

    not_listed : l ≡ None → Gives unsupported
    not_listed e = by_row e

pub returns-in_err-row : goal.returns-in_err-row
returns-in_err-row c =
    let none : c.row_of.result ≡ None = grind arith in
    let is : c.in_err-row.field-0.0 ≡ Unsupported = grind arith in
    let e = err_from_is_err_and c.from_residual.result c.from_residual.ensures.1 in
    rw (e.1, e.2, is) (not_listed _ _ _ _ _ _ _ c.row_of.ensures none)

pub returns-then-number-kind : goal.returns-then-number-kind
returns-then-number-kind c =
    let is : c.row_of.result ≡ Some c.in_ok-row.row = grind arith in
    of_another _ _ _ _ _ _ _ c.row_of.ensures _ is _ c.number.ensures c.if-number-kind.true

pub returns : goal.returns
returns c =
    let is : c.row_of.result ≡ Some c.in_ok-row.row = grind arith in
    in_kind _ _ _ _ _ _ _ c.row_of.ensures _ is _ c.number.ensures _ c.if-number-kind.false c.row_fault.ensures
