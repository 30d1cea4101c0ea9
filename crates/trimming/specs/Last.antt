-- The last byte that is not zero, and the last eight bytes that are not all zeros.
use Rattle.std.specs.Prelude.{ℕ, ◌<◌, ◌≡◌, ◌≢◌, List, [], Option, MatchOption, length, get_or}
use Rattle.rules.specs.Payload.{Bytes, significant}

-- at its place stands another byte than zero, and behind it zeros alone; there is none where all are zeros
abbrev pub LastOther : Bytes → Option ℕ → Type 0
LastOther bytes place =
    MatchOption place ((k : ℕ) → k < length bytes → get_or bytes k 0 ≡ 0)
    (λ last. (last < length bytes) × (get_or bytes last 0 ≢ 0) × ((k : ℕ) → last < k → k < length bytes → get_or bytes k 0 ≡ 0))

-- the last of a list of bytes in which not all are zeros; there is none where all are in each
abbrev pub LastEight : List Bytes → Option ℕ → Type 0
LastEight eights place =
    MatchOption place ((k : ℕ) → k < length eights → significant (get_or eights k []) ≡ 0)
    (λ last. (last < length eights) × (significant (get_or eights last []) ≢ 0) × ((k : ℕ) → last < k → k < length eights → significant (get_or eights k []) ≡ 0))
