-- Kinds: what holds of flight, fence and rally holds of every known kind; what the range test says of a kind.
use Rattle.std.specs.Prelude.{ℕ, zero, suc, ◌≤◌, ◌<◌, ◌≡◌, refl, Bool, true, ◌&&◌, ◌||◌, List, length, eqb, leb, ltb}
use Rattle.std.proofs.Common.{arith, sym, ◌∙◌, leb-true}
use Rattle.std.proofs.Math.Bool.{and-true, or-false}
use Rattle.rules.specs.Limits.{flight, fence, rally, kinds, every_kind, size_of, max_runs}
use Rattle.rules.specs.Model.{Model, upload_of, length_of, every, upload_in_range, in_range}
use Rattle.rules.specs.Calls.{is_known, clears}
use Rattle.rules.specs.Step.{covered, kind_ok}
use Rattle.rule_laws.specs.Tests.{both, either}

pub each_kind : (P : ℕ → Type 0) → P flight → P fence → P rally → (kind : ℕ) → is_known kind ≡ true → P kind
each_kind P a b c zero known = a
each_kind P a b c (suc zero) known = b
each_kind P a b c (suc (suc zero)) known = c
each_kind P a b c (suc (suc (suc n))) known = absurd (let below : suc (suc (suc n)) ≤ rally = leb-true (suc (suc (suc n))) rally known in omega arith)

-- a known kind is one of the three
pub known_below : (kind : ℕ) → is_known kind ≡ true → kind < length kinds
known_below kind known = let le : kind ≤ rally = leb-true kind rally known in omega arith

-- flight plans are the largest
pub size_small : (kind : ℕ) → size_of kind ≤ size_of flight
size_small zero = omega arith
size_small (suc zero) = omega arith
size_small (suc (suc zero)) = omega arith
size_small (suc (suc (suc n))) = omega arith

-- what the range test asks of a kind
abbrev pub kind_ranged : Model → ℕ → Bool
kind_ranged m kind = leb (length_of m.shown kind) (size_of kind) && upload_in_range kind (length_of m.shown kind) (upload_of m kind)

-- a plan's length is at most its size, and an upload is in its ranges
pub record KindRanges (m : Model) (kind : ℕ) : Type 0 where
  pub most : length_of m.shown kind ≤ size_of kind
  pub upload : upload_in_range kind (length_of m.shown kind) (upload_of m kind) ≡ true

ranged_three : (m : Model) → every (kind_ranged m) kinds ≡ true → (kind : ℕ) → is_known kind ≡ true → kind_ranged m kind ≡ true
ranged_three m e =
    let first = both (kind_ranged m flight) (kind_ranged m fence && (kind_ranged m rally && true)) e in
    let second = both (kind_ranged m fence) (kind_ranged m rally && true) first.1 in
    each_kind (λ (kind : ℕ). kind_ranged m kind ≡ true) first.0 second.0 (both (kind_ranged m rally) true second.1).0

pub ranged_kind : (m : Model) → in_range m ≡ true → (kind : ℕ) → is_known kind ≡ true → KindRanges m kind
unfolding in_range
ranged_kind m e kind known =
    let plans = every (kind_ranged m) kinds in
    let place = ltb m.shown.current (length_of m.shown flight) || eqb m.shown.current 0 in
    let runs = every (λ (n : ℕ). leb n max_runs) m.shown.counts in
    let parts =
    both (leb (length_of m.shown kind) (size_of kind)) (upload_in_range kind (length_of m.shown kind) (upload_of m kind))
    (ranged_three m (both plans place (both (plans && place) runs e).0).0 kind known) in
    record { most = leb-true (length_of m.shown kind) (size_of kind) parts.0; upload = parts.1 }

-- the kinds that an allowed clear covers are known
pub covered_known : (kind : ℕ) → kind_ok kind clears ≡ true → every is_known (covered kind) ≡ true
unfolding kind_ok
covered_known kind ok = either (λ (ks : List ℕ). every is_known ks ≡ true) (eqb kind every_kind) (λ t. refl) (λ other. and-true (is_known kind) ∙ sym (or-false (is_known kind)) ∙ (rw other at ok))
