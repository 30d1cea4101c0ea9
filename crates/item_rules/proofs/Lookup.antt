-- Judging an item by the row that looking its command up finds is the rule, by induction over the table.
use Prim.Native.Nat.{ℕ}
use mathlib.Core.Path.{◌≡◌, refl}
use mathlib.Core.List.{List, [], ◌∷◌}
use mathlib.Core.Bool.{Bool, true, false, cond}
use lib.Dec.{eqb}
use Rattle.rules.specs.Limits.{unsupported}
use Rattle.rules.specs.Messages.{Item}
use Rattle.rules.specs.Items.{Row, fault_in, fault_among}
use Rattle.std.specs.Prelude.{Option, None, Some}
use Rattle.item_rules.specs.Table.{lookup}

module _ (kind count own jumps : ℕ) (i : Item) where
  -- by a row: its kind, then its rules
  abbrev pub by_row : Row → ℕ
  by_row r = cond (eqb r.kind kind) (fault_in r count own jumps i) unsupported

  abbrev pub by_found : Option Row → ℕ
  by_found (Some r) = by_row r
  by_found None = unsupported

  pub by_lookup : (rs : List Row) → by_found (lookup i.command rs) ≡ fault_among rs kind count own jumps i
  unfolding lookup fault_among
  by_lookup [] = refl
  by_lookup (r ∷ rs) = go (eqb r.command i.command) (by_lookup rs)
    where
      go : (t : Bool) → by_found (lookup i.command rs) ≡ fault_among rs kind count own jumps i
          → by_found (cond t (Some r) (lookup i.command rs)) ≡ cond t (by_row r) (fault_among rs kind count own jumps i)
      go true e = refl
      go false e = e
