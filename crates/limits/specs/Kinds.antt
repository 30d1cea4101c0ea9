-- The number of each kind of plan, and what a number says of a kind.
use Rattle.std.specs.Prelude.{◌≡◌, ℕ, ◌<◌, ◌≤◌, Result, MatchResult}
use Rattle.std.proofs.Common.{arith}
use Rattle.rules.specs.Limits.{flight, fence, rally}
use Rattle.limits.specs.declared.Kind.{Kind}
use Rattle.limits.specs.declared.Kind.TheVariants.{Flight, Fence, Rally}
use Rattle.limits.specs.declared.NoKind.{NoKind}

abbrev pub kind_number : Kind → ℕ
kind_number Flight = flight
kind_number Fence = fence
kind_number Rally = rally

-- the kind that has the number; none has one past rally's
abbrev pub IsKindOf : ℕ → Result Kind NoKind → Type 0
IsKindOf n r = MatchResult r (λ kind. kind_number kind ≡ n) (λ e. rally < n)

pub kind_known : (kind : Kind) → kind_number kind ≤ rally
kind_known Flight = omega arith
kind_known Fence = omega arith
kind_known Rally = omega arith
