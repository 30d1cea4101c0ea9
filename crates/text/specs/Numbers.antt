-- A number's decimal digits, made from the last to the first.
use Rattle.std.specs.Prelude.{false, ℕ, zero, suc, ◌+◌, ◌*◌, ◌/◌, ◌%◌, ◌^◌, ◌<◌, ◌≤◌, ◌≡◌, List, [], ◌∷◌, ◌++◌, length, set, take, get_or}
use Rattle.std.proofs.Common.{ap, refl, ◌∙◌, append_assoc, append-nil, div-lt_iff_lt-mul, arith, length-set, take-suc-set, lt-ltb, le-ltb, eq-eqb, ne_eqb, sym}
use Rattle.std.proofs.Math.Nat.{pow-succ'}
use Rattle.std.proofs.Math.Decide.{dec_le}
use Rattle.std.specs.Fmt.{digits_onto, digit_glyph, digits, decimal as Fmt·decimal}
use Rattle.adding.specs.declared.Text.{Text}
use Rattle.adding.specs.Added.{Filled, filled, AddsTo, Adds, each}
use Rattle.adding.specs.Laws.{nothing_to, each_front, each_both}
use Rattle.text.specs.Digits.{digit, decimal_in, decimal, two_digits, hex}

-- how many digits a number may have does not matter, where there are enough
enough : (k j n : ℕ) → n < k → n < j → decimal_in k n ≡ decimal_in j n
unfolding decimal_in
enough zero j n h g = absurd (omega arith)
enough (suc k) zero n h g = absurd (omega arith)
enough (suc k) (suc j) n h g = go (dec_le 10 n) (enough k j (n / 10))
  where
    go : Dec (10 ≤ n) → (n / 10 < k → n / 10 < j → decimal_in k (n / 10) ≡ decimal_in j (n / 10)) → decimal_in (suc k) n ≡ decimal_in (suc j) n
    go (yes ten) fewer = rw (le-ltb n 10 ten, fewer (omega arith) (omega arith))
    go (no few) fewer = rw (lt-ltb n 10 (omega arith))

-- the last digit, and those before it
one_digit : (n : ℕ) → n ≤ 9 → decimal n ≡ digit n ∷ []
unfolding decimal_in
one_digit n h = rw (lt-ltb n 10 (omega arith))

more_digits : (n : ℕ) → 9 < n → decimal n ≡ decimal (n / 10) ++ (digit (n % 10) ∷ [])
unfolding decimal_in
more_digits n h = rw (le-ltb n 10 (omega arith)) (ap (λ (l : List ℕ). l ++ (digit (n % 10) ∷ [])) (enough n (suc (n / 10)) (n / 10) (omega arith) (omega arith)))

fewer_left : (n k : ℕ) → n < 10 ^ suc k → n / 10 < 10 ^ k
fewer_left n k fits = (div-lt_iff_lt-mul {k = 10} (omega arith)).1 (omega (arith, fits, pow-succ' 10 k))

some_left : (k n : ℕ) → 0 < n → n < 10 ^ k → 0 < k
some_left zero n more fits = absurd (omega arith)
some_left (suc k) n more fits = omega arith

-- the library's digits, which are made from the last to the first
same_digit : (d : ℕ) → d < 10 → digit_glyph false d ≡ digit d
unfolding digit
same_digit d h = rw (lt-ltb d 10 h)

made : (k n : ℕ) (behind : List ℕ) → n < 10 ^ k → 0 < k → digits_onto k 10 false n behind ≡ decimal n ++ behind
made zero n behind fits some = absurd (omega arith)
made (suc k) n behind fits some = go (dec_le 10 n) (made k (n / 10) (digit (n % 10) ∷ behind))
  where
    go : Dec (10 ≤ n)
        → (n / 10 < 10 ^ k → 0 < k → digits_onto k 10 false (n / 10) (digit (n % 10) ∷ behind) ≡ decimal (n / 10) ++ (digit (n % 10) ∷ behind))
        → digits_onto (suc k) 10 false n behind ≡ decimal n ++ behind
    go (yes ten) fewer =
        let left : n / 10 < 10 ^ k = fewer_left n k fits in
        rw (ne_eqb (n / 10) 0 (λ e. omega (arith, e)), same_digit (n % 10) (omega arith), more_digits n (omega arith))
        (fewer left (some_left k (n / 10) (omega arith) left) ∙ sym (append_assoc (decimal (n / 10)) (digit (n % 10) ∷ []) behind))
    go (no few) fewer =
        let last : n % 10 ≡ n = omega arith in
        rw (eq-eqb (n / 10) 0 (omega arith), last, same_digit n (omega arith), one_digit n (omega arith))

pub same_decimal : (n : ℕ) → n < 2 ^ 64 → Fmt·decimal n ≡ decimal n
unfolding digits
same_decimal n fits = made 64 n [] (omega arith) (omega arith) ∙ append-nil (decimal n)

-- a byte's two digits, behind those of the bytes before it
pub hex_made
    : (bs ds : List ℕ) (i high low : ℕ)
    → i < length bs
    → 2 * i + 2 ≤ length ds
    → high ≡ digit (get_or bs i 0 / 16)
    → low ≡ digit (get_or bs i 0 % 16)
    → take (2 * i) ds ≡ hex (take i bs)
    → take (2 * (i + 1)) (set (set ds (2 * i) high) (2 * i + 1) low) ≡ hex (take (i + 1) bs)
hex_made bs ds i high low h room is_high is_low so_far =
    let end : 2 * (i + 1) ≡ suc (suc (2 * i)) = omega arith in
    let next : 2 * i + 1 ≡ suc (2 * i) = omega arith in
    rw (end, next, each_front two_digits bs i 0 h)
    (take-suc-set (set ds (2 * i) high) (suc (2 * i)) low (omega (arith, length-set ds (2 * i) high))
    ∙ ap (λ (l : List ℕ). l ++ (low ∷ [])) (take-suc-set ds (2 * i) high (omega arith))
    ∙ append_assoc (take (2 * i) ds) (high ∷ []) (low ∷ [])
    ∙ rw (so_far, is_high, is_low))

-- the digits of a part, and of what is left behind it
pub hex_both : (bs part left : List ℕ) → bs ≡ part ++ left → hex bs ≡ hex part ++ hex left
hex_both bs part left is = rw is (each_both two_digits part left)

-- those of no bytes
pub hex_none_to : (bs : List ℕ) (before : Filled) → length bs ≡ 0 → AddsTo (hex bs) before before
unfolding each
hex_none_to [] before none = nothing_to before
hex_none_to (b ∷ bs) before none = absurd (omega arith)

pub hex_none : (bs : List ℕ) (text : Text) → length bs ≡ 0 → Adds (hex bs) text text
hex_none bs text none = record { same = refl; more_stands = hex_none_to bs (filled text) none }
