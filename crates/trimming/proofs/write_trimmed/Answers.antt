-- `trimming::write_trimmed` meets its contract: the first bytes up to the trimmed length are the trimmed bytes.
use Prim.Native.Nat.{ℕ, ◌<◌, ◌≤◌}
use mathlib.Core.Path.{◌≡◌, refl, ◌∙◌}
use native.Mathlib.Omega.{arith}
use lib.ListN.{length}
use lib.Seq.{paste}
use Rattle.rules.specs.Limits.{reply_bytes_min}
use Rattle.rules.specs.Payload.{Bytes, trim}
use Rattle.rule_laws.specs.Layout.{layouts_fit}
use Rattle.copying.specs.Blocks.{front_bytes}
use Rattle.trimming.specs.Written.{Written}
use Rattle.trimming.proofs.Laws.{trim_front, pasted}
use borrow.Author.Rules.{rules}
use Rattle.trimming.proofs.write_trimmed.Goals as goal

module _ (bytes out : Bytes) (f full : ℕ) (long : length bytes ≡ f) (is : full ≡ f) where
  too_short : length out < full → Written bytes out out 0
  too_short h = record { fits = λ room. absurd (omega arith); short = λ _. (refl, refl) }

  module _ (pos : 0 < length bytes) (n : ℕ) (size : n ≡ length (trim bytes)) where
    in_bytes : n ≤ length bytes
    in_bytes = omega (arith, (trim_front bytes pos).0)

    in_out : full ≤ length out → n ≤ length out
    in_out room = omega (arith, in_bytes)

    in_blocks : f ≤ reply_bytes_min → n ≤ front_bytes
    in_blocks most = omega (arith, in_bytes)

    wrote : full ≤ length out → (out' : Bytes) → out' ≡ paste out 0 bytes n → Written bytes out out' n
    wrote room out' e =
        record {
          fits = λ _. record { size = size; held = e ∙ pasted out bytes n size pos };
          short = λ less. absurd (omega arith);
        }

pub returns-then-out-full : goal.returns-then-out-full
returns-then-out-full c = search (too_short, rules)

pub copy_front-requires : goal.copy_front-requires
copy_front-requires c = search (in_bytes, in_out, in_blocks, layouts_fit, rules)

pub returns : goal.returns
returns c = search (wrote, rules)
