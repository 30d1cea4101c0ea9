-- Laws of the parts of a list.
use Rattle.std.specs.Prelude.{ℕ, zero, suc, ◌-◌, ◌≤◌, min, ◌≡◌, refl, List, [], ◌∷◌, length, take, drop}
use Rattle.std.proofs.Common.{ap, sym, ◌∙◌, arith, drop_of_length-le, length-drop, take_all}
use Rattle.std.proofs.Math.Decide.{dec_le}

pub front_again : {A : Type 0} (n : ℕ) (l : List A) → take (length (take n l)) l ≡ take n l
front_again zero l = refl
front_again (suc n) [] = refl
front_again {A} (suc n) (x ∷ l) = ap (λ (k : List A). x ∷ k) (front_again n l)

-- the front of a list, as far as it goes
pub front_of : {A : Type 0} (n end : ℕ) (l : List A) → end ≡ min n (length l) → take end l ≡ take n l
front_of {A} n end l is = go (dec_le n (length l))
  where
    go : Dec (n ≤ length l) → take end l ≡ take n l
    go (yes h) = let same : end ≡ n = omega arith in ap (λ (k : ℕ). take k l) same
    go (no h) = take_all end l (omega arith) ∙ sym (take_all n l (omega arith))

-- what stands from a place on
from_there : {A : Type 0} (from start : ℕ) (l : List A) → start ≡ min from (length l) → drop start l ≡ drop from l
from_there {A} from start l is = go (dec_le from (length l))
  where
    go : Dec (from ≤ length l) → drop start l ≡ drop from l
    go (yes h) = let same : start ≡ from = omega arith in ap (λ (k : ℕ). drop k l) same
    go (no h) =
        let past : length l ≤ start = omega arith in
        let far : length l ≤ from = omega arith in
        drop_of_length-le l past ∙ sym (drop_of_length-le l far)

-- and n of it
pub part_of
    : {A : Type 0} (from start n : ℕ) (l part : List A) → start ≡ min from (length l) → part ≡ take n (take (length l - start) (drop start l)) → part ≡ take n (drop from l)
part_of {A} from start n l part is of =
    of
    ∙ ap (λ (k : List A). take n k) (take_all (length l - start) (drop start l) (omega (arith, length-drop start l)))
    ∙ ap (λ (k : List A). take n k) (from_there from start l is)
