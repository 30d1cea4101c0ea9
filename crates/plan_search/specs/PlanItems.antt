-- The items of a kind in a half of a store from a number on, and up to it; those of the flight plan.
use Rattle.std.specs.Prelude.{ℕ, zero, suc, ◌≤◌, ◌<◌, ◌≡◌, refl, List, [], ◌∷◌, ◌++◌, Bool, length, take, drop}
use Rattle.std.proofs.Common.{arith, not-suc-le-zero, sym, ap, ◌∙◌, drop-cons, take_all}
use Rattle.std.proofs.Math.Decide.{dec_lt}
use Rattle.std.proofs.lemmas.List.{take-append-le}
use Rattle.rules.specs.Payload.{Bytes}
use Rattle.limits.specs.Kinds.{kind_number}
use Rattle.places.specs.Forms.{Store, words, item_at, items_in, length_items, items_at}
use Rattle.places.specs.KindItems.{first_items}
use Rattle.places.specs.declared.items.Items.{Items}
use Rattle.plan_search.specs.declared.flight.Flight.{Flight}

-- the items of the flight plan
abbrev pub flight_items : Flight → List Bytes
flight_items p = first_items p.items p.len

pub items_from : (store : Store) (half : Bool) (kind len n : ℕ) → n < len
    → drop n (items_in words store half kind len) ≡ item_at words store half kind n ∷ drop (suc n) (items_in words store half kind len)
items_from store half kind len n below =
    let items = items_in words store half kind len in
    drop-cons items n [] (omega (arith, length_items words store half kind len))
    ∙ ap (λ (b : Bytes). b ∷ drop (suc n) items) (items_at words store half kind len n below)

pub items_until : (store : Store) (half : Bool) (kind len n : ℕ) → n ≤ len → take n (items_in words store half kind len) ≡ items_in words store half kind n
unfolding items_in
items_until store half kind zero n most = go n most
  where
    go : (m : ℕ) → m ≤ zero → take m [] ≡ items_in words store half kind m
    go zero h = refl
    go (suc m) h = absurd (not-suc-le-zero h)
items_until store half kind (suc len) n most = go (dec_lt n (suc len)) (items_until store half kind len n)
  where
    front : List Bytes
    front = items_in words store half kind len

    go : Dec (n < suc len) → (n ≤ len → take n front ≡ items_in words store half kind n) → take n (front ++ (item_at words store half kind len ∷ [])) ≡ items_in words store half kind n
    go (yes lower) before =
        take-append-le n front (item_at words store half kind len ∷ []) (omega (arith, length_items words store half kind len))
        ∙ before (omega arith)
    go (no all) before =
        let e : n ≡ suc len = omega arith in
        ap (λ (k : ℕ). take k (items_in words store half kind (suc len))) e
        ∙ take_all (suc len) (items_in words store half kind (suc len)) (omega (arith, length_items words store half kind (suc len)))
        ∙ ap (items_in words store half kind) (sym e)

pub items_long : (items : Items) (len : ℕ) → length (first_items items len) ≡ len
items_long items len = length_items words items.store.now items.half (kind_number items.kind) len
