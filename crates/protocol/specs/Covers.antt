-- What a message's kind covers: one kind, or every one.
use Rattle.std.specs.Prelude.{◌≡◌, ℕ, ◌<◌, Result, MatchResult}
use Rattle.rules.specs.Limits.{rally, every_kind}
use Rattle.limits.specs.declared.NoKind.{NoKind}
use Rattle.limits.specs.Kinds.{kind_number}
use Rattle.protocol.specs.declared.clears.Covered.{Covered}
use Rattle.protocol.specs.declared.clears.Covered.TheVariants.{Of, Every}

abbrev pub covered_number : Covered → ℕ
covered_number (Of kind) = kind_number kind
covered_number Every = every_kind

-- what has the number; nothing has one past rally's that is not 255
abbrev pub IsCovered : ℕ → Result Covered NoKind → Type 0
IsCovered n r = MatchResult r (λ kinds. covered_number kinds ≡ n) (λ e. (rally < n) × (n ≡ every_kind → ⊥))
