-- Numbers and bytes as text.
use Rattle.std.specs.Prelude.{ℕ, zero, suc, ◌+◌, ◌/◌, ◌%◌, cond, List, [], ◌∷◌, ◌++◌, ltb}
use Rattle.adding.specs.Added.{each}

-- the digit of a number below 16: `0` to `9`, `A` to `F`
unfoldable pub digit : ℕ → ℕ
digit d = cond (ltb d 10) (48 + d) (55 + d)

-- the decimal digits of a number that has at most so many, without leading zeros
unfoldable pub decimal_in : ℕ → ℕ → List ℕ
decimal_in zero n = []
decimal_in (suc most) n = cond (ltb n 10) (digit n ∷ []) (decimal_in most (n / 10) ++ (digit (n % 10) ∷ []))

-- and no number has more than one digit more than itself
abbrev pub decimal : ℕ → List ℕ
decimal n = decimal_in (suc n) n

-- numbers, each after a space
abbrev pub after_space : ℕ → List ℕ
after_space n = 32 ∷ decimal n

abbrev pub spaced : List ℕ → List ℕ
spaced ns = each after_space ns

-- bytes, two digits each
abbrev pub two_digits : ℕ → List ℕ
two_digits b = digit (b / 16) ∷ digit (b % 16) ∷ []

abbrev pub hex : List ℕ → List ℕ
hex bs = each two_digits bs
