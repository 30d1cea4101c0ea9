-- Laws of text that is added to. A law of a text in its buffer (`Adds`) follows from the one before it, of any two states (`AddsTo`).
use Rattle.std.specs.Prelude.{ℕ, zero, suc, ◌+◌, ◌-◌, ◌<◌, ◌≤◌, min, ◌≡◌, refl, List, [], ◌∷◌, ◌++◌, length, take, get_or}
use Rattle.std.proofs.Common.{ap, sym, ◌∙◌, append_assoc, append-nil, add-one, arith, length-take, length-append, take_all, take-suc}
use Rattle.std.proofs.Math.Seq.{take-nil}
use Rattle.adding.specs.declared.Text.{Text}
use Rattle.adding.specs.Added.{Filled, size_of, filled, AddsTo, Adds, each}
use Rattle.adding.specs.Slices.{added}
use Rattle.adding.specs.Parts.{front_of}

take_both : (n : ℕ) (a b : List ℕ) → take n a ++ take (n - length a) b ≡ take n (a ++ b)
take_both n [] b = let all : n - 0 ≡ n = omega arith in rw (take-nil, all)
take_both zero (x ∷ a) b = let none : zero - suc (length a) ≡ zero = omega arith in rw none
take_both (suc n) (x ∷ a) b = let less : suc n - suc (length a) ≡ n - length a = omega arith in rw less (ap (λ (l : List ℕ). x ∷ l) (take_both n a b))

-- what stands behind the first of a list, as far as the list goes
pub behind
    : (at start : ℕ) (l more : List ℕ) → start ≡ min at (length l) → take start l ++ take (length l - start) more ≡ added l at more
behind at start l more is =
    let n : length (take start l) ≡ start = omega (arith, length-take start l) in
    let all : take (length l) (take start l) ≡ take start l = take_all (length l) (take start l) (omega arith) in
    ap (λ (k : List ℕ). k ++ take (length l - start) more) (sym all)
    ∙ ap (λ (k : ℕ). take (length l) (take start l) ++ take (length l - k) more) (sym n)
    ∙ take_both (length l) (take start l) more
    ∙ ap (λ (k : List ℕ). take (length l) (k ++ more)) (front_of at start l is)

-- two texts, one after the other
pub adds_to_both : {t u : List ℕ} {before between after : Filled} → AddsTo t before between → AddsTo u between after → AddsTo (t ++ u) before after
adds_to_both {t} {u} {before} {between} {after} first second =
    record {
      text = second.text ∙ rw (first.text, first.left, append_assoc, take_both) refl;
      left = second.left ∙ rw first.left (omega (arith, length-append t u));
    }

pub adds_both : {t u : List ℕ} {before between after : Text} → Adds t before between → Adds u between after → Adds (t ++ u) before after
adds_both first second = record { same = second.same ∙ first.same; more_stands = adds_to_both first.more_stands second.more_stands }

-- a byte and what follows it
pub adds_to_after : (b : ℕ) (t : List ℕ) {before between after : Filled} → AddsTo (b ∷ []) before between → AddsTo t between after → AddsTo (b ∷ t) before after
adds_to_after b t first second = adds_to_both first second

pub adds_after : (b : ℕ) (t : List ℕ) {before between after : Text} → Adds (b ∷ []) before between → Adds t between after → Adds (b ∷ t) before after
adds_after b t first second = record { same = second.same ∙ first.same; more_stands = adds_to_after b t first.more_stands second.more_stands }

-- the text of what is equal
pub adds_to_as : {A : Type 0} (text : A → List ℕ) (a b : A) {before after : Filled} → a ≡ b → AddsTo (text b) before after → AddsTo (text a) before after
adds_to_as text a b e adds = rw e adds

pub adds_as : {A : Type 0} (text : A → List ℕ) (a b : A) {before after : Text} → a ≡ b → Adds (text b) before after → Adds (text a) before after
adds_as text a b e adds = record { same = adds.same; more_stands = adds_to_as text a b e adds.more_stands }

-- nothing
pub nothing_to : (before : Filled) → AddsTo [] before before
nothing_to before = record { text = rw take-nil (sym (append-nil before.text)); left = omega arith }

pub adds_nothing : (before : Text) → Adds [] before before
adds_nothing before = record { same = refl; more_stands = nothing_to (filled before) }

-- where there is room for all of it
pub adds_all : {more : List ℕ} {before after : Filled} → length more ≤ before.left → AddsTo more before after → after.text ≡ before.text ++ more
adds_all {more} {before} {after} room adds = adds.text ∙ ap (λ (l : List ℕ). before.text ++ l) (take_all before.left more room)

-- a buffer keeps its size
pub adds_size : {more : List ℕ} {before after : Filled} → AddsTo more before after → size_of after ≡ size_of before
adds_size {more} {before} {after} adds =
    omega (arith, ap length adds.text, length-append before.text (take before.left more), length-take before.left more, adds.left)

-- loops that add a list from its start: what one element more adds

front_more : {A : Type 0} (l : List A) (i : ℕ) (x : A) → i < length l → take (i + 1) l ≡ take i l ++ (get_or l i x ∷ [])
front_more l i x h = rw add-one (take-suc l i x h)

each_more : {A : Type 0} (text : A → List ℕ) (l : List A) (x : A) → each text (l ++ (x ∷ [])) ≡ each text l ++ text x
unfolding each
each_more text [] x = append-nil (text x)
each_more text (y ∷ l) x = ap (λ (k : List ℕ). text y ++ k) (each_more text l x) ∙ sym (append_assoc (text y) (each text l) (text x))

-- the texts of two lists
pub each_both : {A : Type 0} (text : A → List ℕ) (a b : List A) → each text (a ++ b) ≡ each text a ++ each text b
unfolding each
each_both text [] b = refl
each_both text (x ∷ a) b = ap (λ (k : List ℕ). text x ++ k) (each_both text a b) ∙ sym (append_assoc (text x) (each text a) (each text b))

-- the texts of one element more
pub each_front : {A : Type 0} (text : A → List ℕ) (l : List A) (i : ℕ) (x : A) → i < length l → each text (take (i + 1) l) ≡ each text (take i l) ++ text (get_or l i x)
each_front text l i x h = rw (front_more l i x h) (each_more text (take i l) (get_or l i x))

module _ {A : Type 0} (l : List A) (before between after : Filled) (i : ℕ) (x : A) (h : i < length l) where
  pub each_more_to
      : (text : A → List ℕ) → AddsTo (each text (take i l)) before between → AddsTo (text (get_or l i x)) between after → AddsTo (each text (take (i + 1) l)) before after
  each_more_to text first second = rw (each_front text l i x h) (adds_to_both first second)

  pub each_as_to
      : (text : A → List ℕ) (y : A) → y ≡ get_or l i x → AddsTo (each text (take i l)) before between → AddsTo (text y) between after
      → AddsTo (each text (take (i + 1) l)) before after
  each_as_to text y is first second = each_more_to text first (rw is at second)

module _ {A : Type 0} (l : List A) (before between after : Text) (i : ℕ) (x : A) (h : i < length l) where
  pub put_each_more : (text : A → List ℕ) → Adds (each text (take i l)) before between → Adds (text (get_or l i x)) between after → Adds (each text (take (i + 1) l)) before after
  put_each_more text first second =
      record {
        same = second.same ∙ first.same;
        more_stands = each_more_to l (filled before) (filled between) (filled after) i x h text first.more_stands second.more_stands;
      }

  pub put_each_as
      : (text : A → List ℕ) (y : A) → y ≡ get_or l i x → Adds (each text (take i l)) before between → Adds (text y) between after → Adds (each text (take (i + 1) l)) before after
  put_each_as text y is first second =
      record {
        same = second.same ∙ first.same;
        more_stands = each_as_to l (filled before) (filled between) (filled after) i x h text y is first.more_stands second.more_stands;
      }

-- at the end it is the whole list
pub whole_list_to
    : {A : Type 0} (text : List A → List ℕ) (l : List A) (before after : Filled) (i : ℕ) → length l ≤ i → AddsTo (text (take i l)) before after → AddsTo (text l) before after
whole_list_to text l before after i most adds = rw (take_all i l most) at adds

pub whole_list
    : {A : Type 0} (text : List A → List ℕ) (l : List A) (before after : Text) (i : ℕ) → length l ≤ i → Adds (text (take i l)) before after → Adds (text l) before after
whole_list text l before after i most adds =
    record {
      same = adds.same;
      more_stands = whole_list_to text l (filled before) (filled after) i most adds.more_stands;
    }
