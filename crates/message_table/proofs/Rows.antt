-- What holds of every id, shown row by row: each law of the table is computed at the ten ids and holds of all others.
use Prim.Native.Nat.{ℕ, ◌+◌, ◌≤◌, ◌<◌}
use mathlib.Core.Path.{◌≡◌, refl, ap, sym, subst, ◌∙◌}
use mathlib.Core.List.{List, [], ◌∷◌}
use mathlib.Core.Bool.{Bool, true, false, ◌&&◌}
use native.Mathlib.Omega.{arith}
use lib.Dec.{T, eqb, leb, leb→le, lit≤}
use lib.ListN.{get_or}
use lib.Seq.{get_or-take}
use borrow.Author.Tests.{eqb-true, eqb-false, ne_eqb}
use Rattle.std.specs.Prelude.{Option, None, Some, IfSome, is_some}
use Rattle.rules.specs.Limits.{flight, item_bytes}
use Rattle.rules.specs.Payload.{Bytes, number_at}
use Rattle.rules.specs.Layouts.{Field, layout_of, values}
use Rattle.rules.specs.Messages.{unknown, message_of, decode}
use Rattle.fields.specs.Numbers.{number_one}
use Rattle.message_table.specs.Table.{is_read, head_of, kind_in, head_in, full_in, head_at, IsRowOf, Owned, ReadAs}
use Rattle.message_table.specs.declared.HeadAt.{HeadAt}
use Rattle.message_table.specs.declared.Row.{Row}
use Rattle.message_table.proofs.Numbers.{number_same}

left : (a b : Bool) → T (a && b) → T a
left true b t = tt
left false b t = t

right : (a b : Bool) → T (a && b) → T b
right true b t = t
right false b t = absurd t

-- either an id is k, or it is not
split : (P : ℕ → Type 0) (k id : ℕ) → P k → ((id ≡ k → ⊥) → P id) → P id
split P k id at-k other = go (eqb id k) refl
  where
    go : (t : Bool) → eqb id k ≡ t → P id
    go true e = subst P (sym (eqb-true id k e)) at-k
    go false e = other (eqb-false id k e)

other : (k id : ℕ) → (id ≡ k → ⊥) → eqb k id ≡ false
other k id n = ne_eqb k id (λ e. n (sym e))

-- what is known of an id that has no row
record NoRow (id : ℕ) : Type 0 where
  pub full : (layout_of id).full ≡ 0
  pub fields : (layout_of id).fields ≡ []
  pub message : (p : Bytes) → decode id p ≡ unknown

outside : (id : ℕ) → (id ≡ 38 → ⊥) → (id ≡ 41 → ⊥) → (id ≡ 42 → ⊥) → (id ≡ 43 → ⊥) → (id ≡ 44 → ⊥) → (id ≡ 45 → ⊥) → (id ≡ 47 → ⊥) → (id ≡ 51 → ⊥) → (id ≡ 73 → ⊥) → (id ≡ 253 → ⊥) → NoRow id
unfolding layout_of decode message_of
outside id n38 n41 n42 n43 n44 n45 n47 n51 n73 n253 =
    let a38 = other 38 id n38 in
    let a41 = other 41 id n41 in
    let a42 = other 42 id n42 in
    let a43 = other 43 id n43 in
    let a44 = other 44 id n44 in
    let a45 = other 45 id n45 in
    let a47 = other 47 id n47 in
    let a51 = other 51 id n51 in
    let a73 = other 73 id n73 in
    let a253 = other 253 id n253 in
    record {
      full = rw (a38, a41, a42, a43, a44, a45, a47, a51, a73, a253);
      fields = rw (a38, a41, a42, a43, a44, a45, a47, a51, a73, a253);
      message =
          λ p.
          rw (ne_eqb id 38 n38, ne_eqb id 41 n41, ne_eqb id 42 n42, ne_eqb id 43 n43, ne_eqb id 44 n44, ne_eqb id 45 n45, ne_eqb id 47 n47, ne_eqb id 51 n51, ne_eqb id 73 n73, ne_eqb id 253 n253);
    }

-- what holds at the ten ids of the table and at every id that has no row holds at every id
by_row : (P : ℕ → Type 0) → P 38 → P 41 → P 42 → P 43 → P 44 → P 45 → P 47 → P 51 → P 73 → P 253 → ((id : ℕ) → NoRow id → P id) → (id : ℕ) → P id
by_row P p38 p41 p42 p43 p44 p45 p47 p51 p73 p253 none id =
    split P 38 id p38 (λ n38. split P 41 id p41 (λ n41. split P 42 id p42 (λ n42. split P 43 id p43 (λ n43. split P 44 id p44 (λ n44. split P 45 id p45 (λ n45.
    split P 47 id p47 (λ n47. split P 51 id p51 (λ n51. split P 73 id p73 (λ n73. split P 253 id p253 (λ n253.
    none id (outside id n38 n41 n42 n43 n44 n45 n47 n51 n73 n253)))))))))))

-- ---- the row of an id

pub found : {id n : ℕ} {row known : Option Row} → id ≡ n → row ≡ known → IsRowOf n known → IsRowOf id row
found {id} {n} {row} {known} e is of = subst (λ (k : ℕ). IsRowOf k row) (sym e) (subst (λ (r : Option Row). IsRowOf n r) (sym is) of)

pub missed : (id : ℕ) → (id ≡ 38 → ⊥) → (id ≡ 41 → ⊥) → (id ≡ 42 → ⊥) → (id ≡ 43 → ⊥) → (id ≡ 44 → ⊥) → (id ≡ 45 → ⊥) → (id ≡ 47 → ⊥) → (id ≡ 51 → ⊥) → (id ≡ 73 → ⊥) → (id ≡ 253 → ⊥) → IsRowOf id None
missed id n38 n41 n42 n43 n44 n45 n47 n51 n73 n253 =
    let no : NoRow id = outside id n38 n41 n42 n43 n44 n45 n47 n51 n73 n253 in
    record { full = sym no.full; read = λ p. ap is_read (sym (no.message p)); head = tt; within = tt }

pub heads : (target kind : ℕ) (b : Bytes)
    → head_in b (record { target = target; kind = Some kind })
    ≡ record { system = number_at 1 target b; component = number_at 1 (target + 1) b; kind = number_at 1 kind b }
heads target kind b =
    λ i. record { system = sym (number_one target b) i; component = sym (number_one (target + 1) b) i; kind = sym (number_one kind b) i }

pub heads_no_kind : (target : ℕ) (b : Bytes)
    → head_in b (record { target = target; kind = None })
    ≡ record { system = number_at 1 target b; component = number_at 1 (target + 1) b; kind = flight }
heads_no_kind target b = λ i. record { system = sym (number_one target b) i; component = sym (number_one (target + 1) b) i; kind = flight }

not_read_lem : {A : Type 0} → false ≡ true → A
not_read_lem e = absurd (subst T (sym e) tt)

-- ---- a message has all its fields within its full length

abbrev within : ℕ → List Field → Bool
within full [] = true
within full (f ∷ fs) = leb (f.at + f.size) full && within full fs

values_same : (full : ℕ) (fs : List Field) (p q : Bytes) → ((i : ℕ) → i < full → get_or q i 0 ≡ get_or p i 0) → T (within full fs) → values fs q ≡ values fs p
unfolding values
values_same full [] p q same t = refl
values_same full (f ∷ fs) p q same t =
    let first : number_at f.size f.at q ≡ number_at f.size f.at p = number_same f.size f.at full p q same (leb→le (f.at + f.size) full (left (leb (f.at + f.size) full) (within full fs) t)) in
    λ i. first i ∷ values_same full fs p q same (right (leb (f.at + f.size) full) (within full fs) t) i

all_within : (id : ℕ) → T (within (layout_of id).full (layout_of id).fields)
unfolding layout_of
all_within = by_row (λ id. T (within (layout_of id).full (layout_of id).fields)) tt tt tt tt tt tt tt tt tt tt (λ id no. subst (λ fs. T (within (layout_of id).full fs)) (sym no.fields) tt)

-- the longest message that is read is ITEM_INT
full_read : (id : ℕ) (p : Bytes) → is_read (decode id p) ≡ true → (layout_of id).full ≤ item_bytes
unfolding layout_of decode message_of
full_read id p =
    by_row (λ id. is_read (decode id p) ≡ true → (layout_of id).full ≤ item_bytes)
    (λ e. lit≤ tt)
    (λ e. lit≤ tt)
    not_read_lem
    (λ e. lit≤ tt)
    (λ e. lit≤ tt)
    (λ e. lit≤ tt)
    (λ e. lit≤ tt)
    (λ e. lit≤ tt)
    (λ e. lit≤ tt)
    not_read_lem
    (λ id no e. not_read_lem (sym (ap is_read (no.message p)) ∙ e))
    id

-- "Bytes past the full length are ignored.": a message that is read is decoded from its own bytes
decode_own : (id : ℕ) (p b : Bytes) → Owned (layout_of id).full p b → is_read (decode id p) ≡ true → decode id b ≡ decode id p
unfolding decode
decode_own id p b own read =
    let full : ℕ = (layout_of id).full in
    let same : (i : ℕ) → i < full → get_or b i 0 ≡ get_or p i 0 = λ i h. own.byte i (omega (arith, full_read id p read)) ∙ get_or-take full p i 0 h in
    ap (message_of id) (values_same full (layout_of id).fields p b same (all_within id))

-- ---- what is received, by the row of an id and the bytes that are its own

pub received : {id : ℕ} {row : Option Row} {r : Row} {at : HeadAt} {p b : Bytes} {kind : ℕ}
    → IsRowOf id row → row ≡ Some r → r.head ≡ Some at → Owned r.full p b → kind ≡ kind_in b at.kind
    → ReadAs id p (Some (record { head = record { system = get_or b at.target 0; component = get_or b (at.target + 1) 0; kind = kind }; own = b }))
received {id} {row} {r} {at} {p} {b} {kind} of is there part of_kind =
    let placed : head_at row ≡ Some at = ap head_at is ∙ there in
    let full : r.full ≡ (layout_of id).full = sym (ap full_in is) ∙ of.full in
    let own : Owned (layout_of id).full p b = subst (λ (n : ℕ). Owned n p b) full part in
    let read : true ≡ is_read (decode id p) = sym (ap is_some placed) ∙ of.read p in
    let same : decode id b ≡ decode id p = decode_own id p b own (sym read) in
    let head : head_in b at ≡ head_of (decode id b) = subst (λ (o : Option HeadAt). IfSome o (λ a. (q : Bytes) → head_in q a ≡ head_of (decode id q))) placed of.head b in
    record {
      read = read;
      decodes = same;
      heads = (λ i. record { system = get_or b at.target 0; component = get_or b (at.target + 1) 0; kind = of_kind i }) ∙ head ∙ ap head_of same;
    }
