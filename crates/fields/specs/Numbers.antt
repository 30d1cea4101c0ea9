-- Laws of the numbers in bytes, over their width and offset.
use Rattle.std.specs.Prelude.{ℕ, zero, suc, ◌+◌, ◌*◌, ◌^◌, ◌≡◌, get_or}
use Rattle.std.proofs.Common.{ap, ap₂, sym, ◌∙◌, zero-add, add-zero, suc-add, mul_comm, mul_assoc, pow-suc, arith}
use Rattle.std.proofs.Math.Nat.{pow-zero}
use Rattle.rules.specs.Limits.{byte_values}
use Rattle.rules.specs.Payload.{Bytes, number_at}

-- a number of one byte is that byte
pub number_one : (at : ℕ) (p : Bytes) → number_at 1 at p ≡ get_or p at 0
unfolding number_at
number_one at p = omega arith

-- a number is that of its low bytes and, above it, that of the others
number_split : (low high at : ℕ) (p : Bytes) → number_at (low + high) at p ≡ number_at low at p + byte_values ^ low * number_at high (at + low) p
unfolding number_at
number_split zero high at p =
    let here : number_at (0 + high) at p ≡ number_at high (at + 0) p = ap₂ (λ (k l : ℕ). number_at k l p) (zero-add high) (sym (add-zero at)) in
    rw pow-zero (omega arith)
number_split (suc low) high at p =
    let above : ℕ = number_at high (at + suc low) p in
    let next : suc at + low ≡ at + suc low = omega arith in
    let rest : number_at (low + high) (suc at) p ≡ number_at low (suc at) p + byte_values ^ low * above =
    number_split low high (suc at) p ∙ ap (λ (k : ℕ). number_at low (suc at) p + byte_values ^ low * number_at high k p) next in
    let shift : byte_values ^ suc low * above ≡ byte_values * (byte_values ^ low * above) =
    ap (λ (k : ℕ). k * above) (pow-suc byte_values low ∙ mul_comm (byte_values ^ low) byte_values) ∙ mul_assoc byte_values (byte_values ^ low) above in
    ap (λ (k : ℕ). number_at k at p) (suc-add low high) ∙ omega arith

-- a number of two, of four and of eight bytes, by its halves
pub number_two : (at : ℕ) (p : Bytes) → number_at 2 at p ≡ get_or p at 0 + 256 * get_or p (at + 1) 0
number_two at p = omega (arith, number_split 1 1 at p, number_one at p, number_one (at + 1) p)

pub number_four : (at : ℕ) (p : Bytes) → number_at 4 at p ≡ number_at 2 at p + 65536 * number_at 2 (at + 2) p
number_four at p = number_split 2 2 at p

pub number_eight : (at : ℕ) (p : Bytes) → number_at 8 at p ≡ number_at 4 at p + 4294967296 * number_at 4 (at + 4) p
number_eight at p = number_split 4 4 at p
