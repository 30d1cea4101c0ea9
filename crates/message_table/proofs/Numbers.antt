-- Bytes that are a message's own: zeros with a payload's first bytes in their place; and numbers in bytes that agree up to a full length.
use Prim.Native.Nat.{ℕ, zero, suc, ◌+◌, ◌-◌, ◌≤◌, ◌<◌, min}
use mathlib.Core.Path.{◌≡◌, refl, ap, sym, ◌∙◌}
use mathlib.Core.List.{◌++◌}
use native.Mathlib.Decide.{dec_lt}
use native.Mathlib.Omega.{arith}
use lib.ListN.{length, get_or, take, drop, replicate, length-take, get_or-replicate, get_or-append, get_or-eq_default}
use lib.Seq.{paste, get_or-take, get_or-drop, get_or-append-add}
use Rattle.rules.specs.Limits.{item_bytes}
use Rattle.rules.specs.Payload.{Bytes, number_at}
use Rattle.message_table.specs.Table.{Owned}

pub filled : (full m n : ℕ) (p b : Bytes) → m ≡ min full (length p) → n ≡ min m item_bytes → b ≡ paste (replicate item_bytes 0) 0 p n → Owned full p b
filled full m n p b least all is = record { byte = λ i h. ap (λ (d : Bytes). get_or d i 0) is ∙ go i h (dec_lt i n) }
  where
    zeros : Bytes
    zeros = replicate item_bytes 0

    go : (i : ℕ) → i < item_bytes → Dec (i < n) → get_or (take n p ++ drop (0 + n) zeros) i 0 ≡ get_or (take full p) i 0
    go i h (yes below) =
        get_or-append (take n p) (drop (0 + n) zeros) 0 i (omega (arith, length-take n p))
        ∙ get_or-take n p i 0 below
        ∙ sym (get_or-take full p i 0 (omega arith))
    go i h (no past) =
        let k : ℕ = i - length (take n p) in
        ap (λ (j : ℕ). get_or (take n p ++ drop (0 + n) zeros) j 0) (omega (arith, length-take n p))
        ∙ get_or-append-add (take n p) (drop (0 + n) zeros) k 0
        ∙ get_or-drop (0 + n) zeros k 0
        ∙ get_or-replicate item_bytes (0 + n + k) 0 0 (omega (arith, length-take n p))
        ∙ sym (get_or-eq_default (take full p) 0 (omega (arith, length-take full p)))

pub number_same : (size at full : ℕ) (p q : Bytes) → ((i : ℕ) → i < full → get_or q i 0 ≡ get_or p i 0) → at + size ≤ full → number_at size at q ≡ number_at size at p
unfolding number_at
number_same zero at full p q same h = refl
number_same (suc size) at full p q same h =
    let first : get_or q at 0 ≡ get_or p at 0 = same at (omega arith) in
    let rest : number_at size (suc at) q ≡ number_at size (suc at) p = number_same size (suc at) full p q same (omega arith) in
    rw (first, rest)
