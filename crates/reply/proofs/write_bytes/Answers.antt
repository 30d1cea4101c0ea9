-- `reply::write_bytes` meets its contract: bytes of the message's full length are written as such; where that is 0, none.
use Prim.Native.Nat.{ℕ}
use mathlib.Core.Path.{◌≡◌, refl}
use mathlib.Core.List.{[], ◌∷◌}
use native.Mathlib.Omega.{arith}
use lib.ListN.{length}
use Rattle.rules.specs.Payload.{Bytes, significant, trim}
use Rattle.rules.specs.Layouts.{layout_of}
use Rattle.trimming.specs.Written.{Written}
use Rattle.reply.specs.Written.{Taken, taken, not_taken}
use Rattle.reply.proofs.write_bytes.Goals as goal

-- of no bytes none are written, whatever the message's full length
of_none : (asked : ℕ) (bytes out : Bytes) → length bytes ≡ 0 → Taken asked bytes (Written bytes out out 0) out out 0
unfolding trim significant
of_none asked [] out e =
    record { whole = λ _. record { fits = λ _. record { size = refl; held = refl }; short = λ _. (refl, refl) }; other = λ _. (refl, refl) }
of_none asked (b ∷ bytes) out e = absurd (omega arith)

pub returns-then-bytes-eq0 : goal.returns-then-bytes-eq0
returns-then-bytes-eq0 c = let a = c.args in of_none (layout_of a.id).full a.bytes.now a.out.now (omega arith)

pub returns-then-bytes-full_of : goal.returns-then-bytes-full_of
returns-then-bytes-full_of c = not_taken _ _ _ _ _ _ (λ is. omega (arith, c.full_of.ensures)) refl refl

pub returns : goal.returns
returns c = taken _ _ _ _ _ _ (omega (arith, c.full_of.ensures)) c.write_trimmed.ensures
