-- The library's reading and writing of little-endian numbers, in the rules' terms.
use Rattle.std.proofs.Common.{◌≡◌, ℕ, zero, suc, ◌+◌, ◌*◌, ◌/◌, ◌%◌, ◌^◌, ◌<◌, [], ◌∷◌, get_or, refl, sym, ap, ap₂, ◌∙◌, zero-add, add-zero, arith, w16, w32, w64}
use Rattle.std.specs.Int.{from_le_bytes, to_le_bytes}
use Rattle.rules.specs.Limits.{byte_values}
use Rattle.rules.specs.Payload.{Bytes, number_at, bytes_of}
use Rattle.fields.specs.Numbers.{number_two, number_four, number_eight}

-- the same bytes are the same number, wherever they stand
same_from : (k low at : ℕ) (b p : Bytes) → ((i : ℕ) → i < k → get_or b (low + i) 0 ≡ get_or p (at + i) 0) → number_at k low b ≡ number_at k at p
unfolding number_at
same_from zero low at b p same = refl
same_from (suc k) low at b p same =
    let first : get_or b low 0 ≡ get_or p at 0 =
    ap (λ (j : ℕ). get_or b j 0) (sym (add-zero low)) ∙ same 0 (omega arith) ∙ ap (λ (j : ℕ). get_or p j 0) (add-zero at) in
    let next : (i : ℕ) → i < k → get_or b (suc low + i) 0 ≡ get_or p (suc at + i) 0 =
    λ i below. let e : suc low + i ≡ low + suc i = omega arith in
    let f : at + suc i ≡ suc at + i = omega arith in
    ap (λ (j : ℕ). get_or b j 0) e ∙ same (suc i) (omega arith) ∙ ap (λ (j : ℕ). get_or p j 0) f in
    ap₂ (λ (x y : ℕ). x + byte_values * y) first (same_from k (suc low) (suc at) b p next)

pub same_number : (k at : ℕ) (b p : Bytes) → ((i : ℕ) → i < k → get_or b i 0 ≡ get_or p (at + i) 0) → number_at k 0 b ≡ number_at k at p
same_number k at b p same = same_from k 0 at b p (λ i below. ap (λ (j : ℕ). get_or b j 0) (zero-add i) ∙ same i below)

pub read_two : (b : Bytes) → from_le_bytes w16 b ≡ number_at 2 0 b
read_two b = omega (arith, number_two 0 b)

pub read_four : (b : Bytes) → from_le_bytes w32 b ≡ number_at 4 0 b
read_four b = omega (arith, number_four 0 b, number_two 0 b, number_two 2 b)

pub read_eight : (b : Bytes) → from_le_bytes w64 b ≡ number_at 8 0 b
read_eight b = omega (arith, number_eight 0 b, number_four 0 b, number_four 4 b, number_two 0 b, number_two 2 b, number_two 4 b, number_two 6 b)

pub wrote_two : (n : ℕ) → to_le_bytes w16 n ≡ bytes_of 2 n
unfolding bytes_of
wrote_two n = let e : n / 256 ^ 1 % 256 ≡ n / 256 % 256 = omega arith in λ i. n % 256 ∷ e i ∷ []

pub wrote_four : (n : ℕ) → to_le_bytes w32 n ≡ bytes_of 4 n
unfolding bytes_of
wrote_four n =
    let e : n / 256 ^ 1 % 256 ≡ n / 256 % 256 = omega arith in
    let f : n / 256 ^ 2 % 256 ≡ n / 256 / 256 % 256 = omega arith in
    let g : n / 256 ^ 3 % 256 ≡ n / 256 / 256 / 256 % 256 = omega arith in
    λ i. n % 256 ∷ e i ∷ f i ∷ g i ∷ []
