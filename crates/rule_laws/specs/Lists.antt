-- Lists: what stands at a place after another was set, and tests of every element.
use Rattle.std.specs.Prelude.{ℕ, zero, suc, ◌<◌, ◌≡◌, refl, List, [], ◌∷◌, ◌++◌, Bool, true, cond, length, get_or, set, take, drop, eqb}
use Rattle.std.proofs.Common.{not-suc-le-zero, le_of_suc-le-suc}
use Rattle.std.proofs.Math.Dec.{eqb-zero-suc, eqb-suc-zero, eqb-suc-suc}
use Rattle.rules.specs.Model.{every}
use Rattle.rule_laws.specs.Tests.{both}

-- what stands at j after a place k of a list was set
pub at_set : {A : Type 0} (l : List A) (k j : ℕ) (a d : A) → k < length l → get_or (set l k a) j d ≡ cond (eqb k j) a (get_or l j d)
at_set [] k j a d h = absurd (not-suc-le-zero h)
at_set (x ∷ l) zero zero a d h = refl
at_set (x ∷ l) zero (suc j) a d h = rw eqb-zero-suc
at_set (x ∷ l) (suc k) zero a d h = rw eqb-suc-zero
at_set (x ∷ l) (suc k) (suc j) a d h = rw eqb-suc-suc (at_set l k j a d (le_of_suc-le-suc h))

-- what holds of an element and of every place of a list holds of every place after the element was set
pub each_set : {A : Type 0} (P : A → Type 0) (l : List A) (k j : ℕ) (a d : A) → P a → ((i : ℕ) → P (get_or l i d)) → P (get_or (set l k a) j d)
each_set P [] k j a d p all = all j
each_set P (x ∷ l) zero zero a d p all = p
each_set P (x ∷ l) zero (suc j) a d p all = all (suc j)
each_set P (x ∷ l) (suc k) zero a d p all = all 0
each_set P (x ∷ l) (suc k) (suc j) a d p all = each_set P l k j a d p (λ i. all (suc i))

-- so it does of a list of one, of two lists joined, and of a list's front and rest
pub each_one : {A : Type 0} (P : A → Type 0) (a d : A) → P a → P d → (j : ℕ) → P (get_or (a ∷ []) j d)
each_one P a d p q zero = p
each_one P a d p q (suc j) = q

pub each_join : {A : Type 0} (P : A → Type 0) (l m : List A) (d : A) → ((i : ℕ) → P (get_or l i d)) → ((i : ℕ) → P (get_or m i d)) → (j : ℕ) → P (get_or (l ++ m) j d)
each_join P [] m d all more j = more j
each_join P (x ∷ l) m d all more zero = all 0
each_join P (x ∷ l) m d all more (suc j) = each_join P l m d (λ i. all (suc i)) more j

pub each_take : {A : Type 0} (P : A → Type 0) (n : ℕ) (l : List A) (d : A) → P d → ((i : ℕ) → P (get_or l i d)) → (j : ℕ) → P (get_or (take n l) j d)
each_take P zero l d q all j = q
each_take P (suc n) [] d q all j = q
each_take P (suc n) (x ∷ l) d q all zero = all 0
each_take P (suc n) (x ∷ l) d q all (suc j) = each_take P n l d q (λ i. all (suc i)) j

pub each_drop : {A : Type 0} (P : A → Type 0) (n : ℕ) (l : List A) (d : A) → P d → ((i : ℕ) → P (get_or l i d)) → (j : ℕ) → P (get_or (drop n l) j d)
each_drop P zero l d q all j = all j
each_drop P (suc n) [] d q all j = q
each_drop P (suc n) (x ∷ l) d q all j = each_drop P n l d q (λ i. all (suc i)) j

pub every_set : (test : ℕ → Bool) (l : List ℕ) (i v : ℕ) → test v ≡ true → every test l ≡ true → every test (set l i v) ≡ true
every_set test [] i v h e = refl
every_set test (x ∷ l) zero v h e = rw h (both (test x) (every test l) e).1
every_set test (x ∷ l) (suc i) v h e =
    let parts = both (test x) (every test l) e in
    rw parts.0 (every_set test l i v h parts.1)

pub every_at : (test : ℕ → Bool) (l : List ℕ) (i d : ℕ) → test d ≡ true → every test l ≡ true → test (get_or l i d) ≡ true
every_at test [] i d h e = h
every_at test (x ∷ l) zero d h e = (both (test x) (every test l) e).0
every_at test (x ∷ l) (suc i) d h e = every_at test l i d h (both (test x) (every test l) e).1
