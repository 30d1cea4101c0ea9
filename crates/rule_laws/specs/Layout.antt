-- The table of layouts: each row's fields follow one another from 0 to its full length, and what is packed by them is read back.
use Rattle.std.specs.Prelude.{ℕ, zero, suc, ◌+◌, ◌^◌, ◌<◌, ◌≤◌, ◌≡◌, refl, List, [], ◌∷◌, ◌++◌, Bool, true, false, cond, ◌&&◌, length, get_or, set, drop, eqb, leb}
use Rattle.std.proofs.Common.{sym, ap, ap₂, subst, ◌∙◌, append_assoc, add-zero, zero-add, arith, length-append, eqb-true, leb-true}
use Rattle.rules.specs.Limits.{byte_values, item_bytes, reply_bytes_min}
use Rattle.rules.specs.Payload.{Bytes, number_at, bytes_of}
use Rattle.rules.specs.Layouts.{Field, Layout, u8, layouts, layout_of, find, values, pack}
use Rattle.rules.specs.Messages.{station, Item, Message, item_int, id_of, values_of, encode, item_of}
use Rattle.rules.specs.Model.{every}
use Rattle.rule_laws.specs.Tests.{both}
use Rattle.rule_laws.specs.Numbers.{length_bytes_of, bytes_of_bytes, bytes_append, number_at_fits, number_at_bytes_of}

-- the fields follow one another from `at` to `full`
abbrev pub follow : (at full : ℕ) → List Field → Bool
follow at full [] = eqb at full
follow at full (f ∷ fs) = eqb f.at at && follow (at + f.size) full fs

-- each value fits its field, and there are as many of them
abbrev pub FitFields : List Field → List ℕ → Type 0
FitFields [] [] = Unit {0}
FitFields [] (v ∷ vs) = ⊥
FitFields (f ∷ fs) [] = ⊥
FitFields (f ∷ fs) (v ∷ vs) = (v < byte_values ^ f.size) × FitFields fs vs

-- what holds of every row of the table, and of an id without one, holds of every id's
find_every : (p : Layout → Bool) (ls : List Layout) (id : ℕ) → p (find [] id) ≡ true → every p ls ≡ true → p (find ls id) ≡ true
find_every p [] id none e = none
find_every p (l ∷ ls) id none e = go (eqb l.id id) (find_every p ls id none (both (p l) (every p ls) e).1)
  where
    go : (t : Bool) → p (find ls id) ≡ true → p (cond t l (find ls id)) ≡ true
    go true ih = (both (p l) (every p ls) e).0
    go false ih = ih

-- every row's fields follow one another from 0 to its full length
pub layouts_follow : (id : ℕ) → follow 0 (layout_of id).full (layout_of id).fields ≡ true
unfolding layout_of
layouts_follow id = find_every (λ (l : Layout). follow 0 l.full l.fields) layouts id refl refl

-- every message fits a reply buffer
pub layouts_fit : (id : ℕ) → (layout_of id).full ≤ reply_bytes_min
unfolding layout_of
layouts_fit id = leb-true _ _ (find_every (λ (l : Layout). leb l.full reply_bytes_min) layouts id refl refl)

-- values packed behind a front part are read back
pub values_pack :
    (full : ℕ) (fs : List Field) (vs : List ℕ) (pre : Bytes) → follow (length pre) full fs ≡ true → FitFields fs vs
    → values fs (pre ++ pack fs vs) ≡ vs
unfolding values pack
values_pack full [] [] pre e h = refl
values_pack full [] (v ∷ vs) pre e h = absurd h
values_pack full (f ∷ fs) [] pre e h = absurd h
values_pack full (f ∷ fs) (v ∷ vs) pre e h =
    let parts = both (eqb f.at (length pre)) (follow (length pre + f.size) full fs) e in
    let here : f.at ≡ length pre = eqb-true f.at (length pre) parts.0 in
    let b = bytes_of f.size v in
    let same : (pre ++ b) ++ pack fs vs ≡ pre ++ (b ++ pack fs vs) = append_assoc pre b (pack fs vs) in
    let grown : length (pre ++ b) ≡ length pre + f.size = length-append pre b ∙ ap (λ (n : ℕ). length pre + n) (length_bytes_of f.size v) in
    let rest : follow (length (pre ++ b)) full fs ≡ true = subst (λ (n : ℕ). follow n full fs ≡ true) (sym grown) parts.1 in
    let first : number_at f.size f.at (pre ++ (b ++ pack fs vs)) ≡ v =
    ap (λ (n : ℕ). number_at f.size n (pre ++ (b ++ pack fs vs))) here ∙ number_at_bytes_of f.size v pre (pack fs vs) h.0 in
    let later : values fs (pre ++ (b ++ pack fs vs)) ≡ vs =
    ap (λ (l : Bytes). values fs l) (sym same) ∙ values_pack full fs vs (pre ++ b) rest h.1 in
    ap₂ {C = List ℕ} (λ (n : ℕ) (l : List ℕ). n ∷ l) first later

-- the fields of bytes fit
pub values_fit : (fs : List Field) (p : Bytes) → ((i : ℕ) → get_or p i 0 < byte_values) → FitFields fs (values fs p)
unfolding values
values_fit [] p small = tt
values_fit (f ∷ fs) p small = (number_at_fits f.size f.at p small, values_fit fs p small)

-- a value that fits its field, in the place of another
pub fit_set : (fs : List Field) (vs : List ℕ) (i v : ℕ) → FitFields fs vs → v < byte_values ^ (get_or fs i (u8 0)).size → FitFields fs (set vs i v)
fit_set [] [] i v h small = tt
fit_set [] (w ∷ vs) i v h small = absurd h
fit_set (f ∷ fs) [] i v h small = absurd h
fit_set (f ∷ fs) (w ∷ vs) zero v h small = (small, h.1)
fit_set (f ∷ fs) (w ∷ vs) (suc i) v h small = (h.0, fit_set fs vs i v h.1 small)

-- what is packed is bytes, whatever the values
pub pack_bytes : (fs : List Field) (vs : List ℕ) (i : ℕ) → get_or (pack fs vs) i 0 < byte_values
unfolding pack
pack_bytes [] vs i = omega arith
pack_bytes (f ∷ fs) vs i = bytes_append (bytes_of f.size (get_or vs 0 0)) (pack fs (drop 1 vs)) (bytes_of_bytes f.size (get_or vs 0 0)) (pack_bytes fs (drop 1 vs)) i

-- what is packed has the full length
length_pack : (at full : ℕ) (fs : List Field) (vs : List ℕ) → follow at full fs ≡ true → at + length (pack fs vs) ≡ full
unfolding pack
length_pack at full [] vs e = add-zero at ∙ eqb-true at full e
length_pack at full (f ∷ fs) vs e =
    let parts = both (eqb f.at at) (follow (at + f.size) full fs) e in
    let b = bytes_of f.size (get_or vs 0 0) in
    let rest = length_pack (at + f.size) full fs (drop 1 vs) parts.1 in
    omega (arith, length-append b (pack fs (drop 1 vs)), length_bytes_of f.size (get_or vs 0 0))

pub length_encode : (m : Message) → length (encode m) ≡ (layout_of (id_of m)).full
unfolding encode
length_encode m = sym (zero-add (length (pack (layout_of (id_of m)).fields (values_of m)))) ∙ length_pack 0 (layout_of (id_of m)).full (layout_of (id_of m)).fields (values_of m) (layouts_follow (id_of m))

pub encode_fits : (m : Message) → length (encode m) ≤ reply_bytes_min
encode_fits m = omega (arith, length_encode m, layouts_fit (id_of m))

pub length_item_of : (item : Item) → length (item_of item) ≡ item_bytes
unfolding item_of layout_of
length_item_of item = length_encode (item_int (station 0 0) 0 item)
