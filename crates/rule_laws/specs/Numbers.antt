-- Fields and bytes: the bytes written for a number are read back as the number, and a field of bytes fits its size.
use Rattle.std.specs.Prelude.{ℕ, zero, suc, ◌+◌, ◌*◌, ◌/◌, ◌%◌, ◌^◌, ◌<◌, ◌≡◌, refl, [], ◌∷◌, ◌++◌, length, get_or}
use Rattle.std.proofs.Common.{mod-lt, div-lt_iff_lt-mul, mul_comm, add_comm, arith, add-one, sym, ap, ap₂, ◌∙◌, append_assoc, length-append}
use Rattle.std.proofs.Math.Nat.{div-add-mod, pow-succ', pow-zero}
use Rattle.std.proofs.Math.Seq.{get_or-append_seam}
use Rattle.rules.specs.Limits.{byte_values}
use Rattle.rules.specs.Payload.{Bytes, number_at, bytes_of}

pub length_bytes_of : (size n : ℕ) → length (bytes_of size n) ≡ size
unfolding bytes_of
length_bytes_of zero n = refl
length_bytes_of (suc size) n = ap suc (length_bytes_of size (n / byte_values))

-- a number's bytes are bytes
pub bytes_of_bytes : (size n i : ℕ) → get_or (bytes_of size n) i 0 < byte_values
unfolding bytes_of
bytes_of_bytes zero n i = omega arith
bytes_of_bytes (suc size) n zero = mod-lt n (omega arith)
bytes_of_bytes (suc size) n (suc i) = bytes_of_bytes size (n / byte_values) i

-- bytes before bytes
pub bytes_append :
    (p q : Bytes) → ((i : ℕ) → get_or p i 0 < byte_values) → ((i : ℕ) → get_or q i 0 < byte_values) → (i : ℕ) → get_or (p ++ q) i 0 < byte_values
bytes_append [] q hp hq i = hq i
bytes_append (b ∷ p) q hp hq zero = hp 0
bytes_append (b ∷ p) q hp hq (suc i) = bytes_append p q (λ j. hp (suc j)) hq i

-- payloads that agree at every place have the same fields
pub number_at_agree : (size at : ℕ) (p q : Bytes) → ((i : ℕ) → get_or p i 0 ≡ get_or q i 0) → number_at size at p ≡ number_at size at q
unfolding number_at
number_at_agree zero at p q same = refl
number_at_agree (suc size) at p q same = ap₂ (λ (a b : ℕ). a + byte_values * b) (same at) (number_at_agree size (suc at) p q same)

-- a field of bytes fits its size
pub number_at_fits : (size at : ℕ) (p : Bytes) → ((i : ℕ) → get_or p i 0 < byte_values) → number_at size at p < byte_values ^ size
unfolding number_at
number_at_fits zero at p small = rw pow-zero (omega arith)
number_at_fits (suc size) at p small =
    let low : get_or p at 0 < byte_values = small at in
    let high : number_at size (suc at) p < byte_values ^ size = number_at_fits size (suc at) p small in
    rw pow-succ' (omega arith)

div_below : (size n : ℕ) → n < byte_values ^ suc size → n / byte_values < byte_values ^ size
div_below size n h = (div-lt_iff_lt-mul {k = byte_values} (omega arith)).1 (rw (pow-succ', mul_comm byte_values (byte_values ^ size)) at h)

-- what bytes_of writes behind a front part is read back there
pub number_at_bytes_of : (size n : ℕ) (pre post : Bytes) → n < byte_values ^ size → number_at size (length pre) (pre ++ (bytes_of size n ++ post)) ≡ n
unfolding number_at bytes_of
number_at_bytes_of zero n pre post h = let small : n < 1 = rw pow-zero at h in omega arith
number_at_bytes_of (suc size) n pre post h =
    let b = n % byte_values in
    let more = bytes_of size (n / byte_values) ++ post in
    let low : get_or (pre ++ b ∷ more) (length pre) 0 ≡ b = get_or-append_seam pre b more 0 in
    let grown : length (pre ++ (b ∷ [])) ≡ suc (length pre) = length-append pre (b ∷ []) ∙ add-one (length pre) in
    let same : pre ++ b ∷ more ≡ (pre ++ (b ∷ [])) ++ more = sym (append_assoc pre (b ∷ []) more) in
    let high : number_at size (suc (length pre)) (pre ++ b ∷ more) ≡ n / byte_values =
    ap₂ (λ (a : ℕ) (l : Bytes). number_at size a l) (sym grown) same ∙ number_at_bytes_of size (n / byte_values) (pre ++ (b ∷ [])) post (div_below size n h) in
    ap₂ (λ (x y : ℕ). x + byte_values * y) low high ∙ add_comm (n % byte_values) (byte_values * (n / byte_values)) ∙ div-add-mod n byte_values
