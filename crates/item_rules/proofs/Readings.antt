-- A float that is no whole number is within no limits and no target; and a place without a fault leaves what comes behind it.
use Prim.Native.Nat.{ℕ}
use mathlib.Core.Path.{◌≡◌, refl, ap}
use mathlib.Core.Bool.{Bool, true, false, cond, not}
use lib.IntN.{ℤ}
use native.Mathlib.Omega.{arith}
use Rattle.std.specs.Prelude.{Result, Ok, Err, MatchResult}
use Rattle.rules.specs.Limits.{accepted, x_limit, y_limit, invalid_x, invalid_y, invalid_z}
use Rattle.rules.specs.Messages.{Item}
use Rattle.rules.specs.Values.{Whole, whole_from, signed, within, float, finite}
use Rattle.rules.specs.Items.{target_in, place_fault}
use Rattle.values.specs.declared.NotWhole.{NotWhole}
use Rattle.values.specs.declared.NotWhole.TheVariants.{NoValue, Fraction}
use Rattle.values.specs.Wholes.{meant}

-- by what a library's method says of the variant that it met
pub by_reading : {G : Type 0} {P : ℤ → Type 0} {Q : NotWhole → Type 0} (r : Result ℤ NotWhole) → MatchResult r P Q
    → ((n : ℤ) → r ≡ Ok n → P n → G) → ((e : NotWhole) → r ≡ Err e → Q e → G) → G
by_reading (Ok n) m f g = f n refl m
by_reading (Err e) m f g = g e refl m

pub no_whole : {w : Whole} (e : NotWhole) → meant (Err e) ≡ w → (low high : ℤ) → false ≡ whole_from low high w
unfolding whole_from
no_whole {w} NoValue is low high = ap (whole_from low high) is
no_whole {w} Fraction is low high = ap (whole_from low high) is

pub no_target : {w : Whole} (e : NotWhole) → meant (Err e) ≡ w → (home : Bool) (count own : ℕ) → false ≡ target_in home count own w
unfolding target_in
no_target {w} NoValue is home count own = ap (target_in home count own) is
no_target {w} Fraction is home count own = ap (target_in home count own) is

-- three tests in a row, each with the number that it gives where it holds
first_of : (a b c : Bool) → ℕ → ℕ
first_of a b c rest = cond a invalid_x (cond b invalid_y (cond c invalid_z rest))

faulty_first : (a b c : Bool) (rest : ℕ) → (first_of a b c accepted ≡ accepted → ⊥) → first_of a b c accepted ≡ first_of a b c rest
unfolding first_of
faulty_first true b c rest some = refl
faulty_first false true c rest some = refl
faulty_first false false true rest some = refl
faulty_first false false false rest some = absurd (some refl)

sound_first : (a b c : Bool) (rest : ℕ) → accepted ≡ first_of a b c accepted → rest ≡ first_of a b c rest
unfolding first_of
sound_first true b c rest none = absurd (omega arith)
sound_first false true c rest none = absurd (omega arith)
sound_first false false true rest none = absurd (omega arith)
sound_first false false false rest none = refl

-- a fault of the place comes before what is behind it
pub place_first : (positional : Bool) (i : Item) (rest : ℕ) → (place_fault positional i accepted ≡ accepted → ⊥) → place_fault positional i accepted ≡ place_fault positional i rest
unfolding place_fault first_of
place_first false i rest some = absurd (some refl)
place_first true i rest some = faulty_first (not (within x_limit (signed i.x))) (not (within y_limit (signed i.y))) (not (finite (float i.z))) rest some

pub place_passed : (positional : Bool) (i : Item) (rest : ℕ) → accepted ≡ place_fault positional i accepted → rest ≡ place_fault positional i rest
unfolding place_fault first_of
place_passed false i rest none = refl
place_passed true i rest none = sound_first (not (within x_limit (signed i.x))) (not (within y_limit (signed i.y))) (not (finite (float i.z))) rest none
