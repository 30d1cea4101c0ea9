-- The parts of a command's words.
use Prim.Native.Nat.{ℕ, ◌/◌, ◌%◌, ◌^◌, ◌<◌}
use mathlib.Core.Path.{◌≡◌, refl, sym}
use mathlib.Core.Bool.{true, true≢false}
use mathlib.Core.List.{List, [], ◌∷◌, ◌++◌, append_assoc}
use native.Mathlib.Omega.{arith}
use lib.Ieee.{Float, nan, inf, fin, is_nan, binary32, to_bits}
use Rattle.std.specs.Int.{w32, to_be_bytes}
use Rattle.adding.specs.declared.Text.{Text}
use Rattle.adding.specs.Added.{Filled, AddsTo, Adds}
use Rattle.text.specs.Words.{ascii}
use Rattle.text.specs.Digits.{spaced}
use Rattle.rows.specs.Rows.{line}
use Rattle.command_words.specs.Commands.{high_first, value_text}

-- values

pub nan_bits : (x : Float) → is_nan x ≡ true → 2143289344 ≡ to_bits binary32 x
unfolding is_nan to_bits
nan_bits nan h = refl
nan_bits (inf s) h = absurd (true≢false (sym h))
nan_bits (fin s m e) h = absurd (true≢false (sym h))

pub highest_first : (n : ℕ) → n < 4294967296 → to_be_bytes w32 n ≡ high_first n
highest_first n h =
    let a : n / 256 ^ 3 % 256 ≡ n / 16777216 = omega arith in
    let b : n / 256 ^ 2 % 256 ≡ n / 65536 % 256 = omega arith in
    let c : n / 256 ^ 1 % 256 ≡ n / 256 % 256 = omega arith in
    λ i. a i ∷ b i ∷ c i ∷ n % 256 ∷ []

-- a value behind a word and a number

pub value_line_to
    : (word bytes : List ℕ) (n : ℕ) (x : Float) {before after : Filled}
    → bytes ≡ high_first (to_bits binary32 x)
    → AddsTo (line word (n ∷ []) (ascii " ") bytes (ascii "\n")) before after
    → AddsTo ((word ++ (spaced (n ∷ []) ++ value_text x)) ++ ascii "\n") before after
value_line_to word bytes n x is adds =
    rw (append_assoc word (spaced (n ∷ []) ++ value_text x) (ascii "\n"), append_assoc (spaced (n ∷ [])) (value_text x) (ascii "\n"), ← is) adds

pub value_line
    : (word bytes : List ℕ) (n : ℕ) (x : Float) {before after : Text}
    → bytes ≡ high_first (to_bits binary32 x)
    → Adds (line word (n ∷ []) (ascii " ") bytes (ascii "\n")) before after
    → Adds ((word ++ (spaced (n ∷ []) ++ value_text x)) ++ ascii "\n") before after
value_line word bytes n x is adds = record { same = adds.same; more_stands = value_line_to word bytes n x is adds.more_stands }
