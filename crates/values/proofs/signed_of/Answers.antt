-- An i32 is its pattern, read as the rules read it.
use Rattle.std.proofs.Common.{◌≡◌, ℕ, suc, ◌-◌, ◌^◌, cond, ltb, ℤ, pos, negsuc, ap, ◌∙◌, arith, w32, to_z, of_z}
use Rattle.std.proofs.lemmas.Int.{of_z-to_z}
use Rattle.rules.specs.Values.{signed}
use Rattle.values.proofs.signed_of.Goals as goal

read_is : (n : ℕ) → to_z w32 n ≡ signed n
unfolding signed
read_is n = let e : 2 ^ 32 - suc n ≡ 4294967295 - n = omega arith in ap (λ (k : ℕ). cond (ltb n (2 ^ 31)) (pos n) (negsuc k)) e

pub returns : goal.returns
returns c = let n = c.args.bits in
    ap (λ (z : ℤ). to_z w32 (of_z w32 z)) c.cast_signed.ensures ∙ ap (to_z w32) (of_z-to_z w32 n (omega arith)) ∙ read_is n
