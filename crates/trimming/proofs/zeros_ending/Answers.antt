-- `trimming::zeros_ending` meets its contract: the zeros that end eight bytes are the whole bytes of leading zeros in their number.
use Rattle.std.proofs.Common.{◌∙◌, ap, sym, ℕ, ◌+◌, ◌/◌, List, take_all, arith}
use lib.Count.{count_leading_zeros}
use Rattle.rules.specs.Payload.{number_at, significant}
use Rattle.rule_laws.specs.Numbers.{number_at_fits}
use Rattle.trimming.proofs.Words.{zeros_counted}
use Rattle.trimming.proofs.zeros_ending.Goals as goal

pub returns : goal.returns
returns c = let bytes = c.args.eight.now in
    ap (λ (n : ℕ). count_leading_zeros 64 n / 8 + significant bytes) c.u64_at.ensures
    ∙ ap (λ (l : List ℕ). count_leading_zeros 64 (number_at 8 0 bytes) / 8 + significant l) (sym (take_all 8 bytes (omega arith)))
    ∙ zeros_counted bytes c.fits-eight 8 0 (omega arith) (number_at_fits 8 0 bytes c.fits-eight)
