-- M-109: the setting is asked of flight plans alone. Items of a fence and of rally points are judged with it as without it.
use Rattle.std.specs.Prelude.{ℕ, ◌≡◌, true, false}
use Rattle.std.proofs.Common.{sym, ne_eqb}
use Rattle.rules.specs.Limits.{flight}
use Rattle.rules.specs.Messages.{Item}
use Rattle.rules.specs.Items.{fault_among, fault}

-- every item of another kind, in every place
pub no_other_home : (kind count own jumps : ℕ) (item : Item) → (kind ≡ flight → ⊥) → fault true kind count own jumps item ≡ fault false kind count own jumps item
unfolding fault fault_among
no_other_home kind count own jumps item other = rw (ne_eqb kind flight other, ne_eqb flight kind (λ e. other (sym e)))
