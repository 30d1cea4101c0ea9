-- What the code's command table says, in the rules' terms.
use Rattle.std.specs.Prelude.{ℕ, List, [], ◌∷◌, cond, eqb, Option, None, Some}
use Rattle.rules.specs.Items as rules
use Rattle.limits.specs.Kinds.{kind_number}
use Rattle.item_rules.specs.declared.table.ParamRule.{ParamRule}
use Rattle.item_rules.specs.declared.table.ParamRule.TheVariants.{Anything, Finite, AtLeastZero, AboveZero, UpTo, Whole, WholeOrNone, Target}
use Rattle.item_rules.specs.declared.table.Row.{Row}

-- what each case of the code's ParamRule asks
abbrev pub rule_of : ParamRule → rules.ParamRule
rule_of Anything = rules.anything
rule_of Finite = rules.is_finite
rule_of AtLeastZero = rules.is_at_least_zero
rule_of AboveZero = rules.is_above_zero
rule_of (UpTo limit) = rules.is_up_to limit
rule_of (Whole low high) = rules.is_whole low high
rule_of (WholeOrNone low high) = rules.is_whole_or_none low high
rule_of (Target home) = rules.is_target home

-- a command's row
abbrev pub row_of : ℕ → Row → rules.Row
row_of command row =
    record { command = command; kind = kind_number row.kind; positional = row.positional; param1 = rule_of row.param1; param2 = rule_of row.param2 }

-- the first row of a command
unfoldable pub lookup : ℕ → List rules.Row → Option rules.Row
lookup command [] = None
lookup command (r ∷ rs) = cond (eqb r.command command) (Some r) (lookup command rs)
