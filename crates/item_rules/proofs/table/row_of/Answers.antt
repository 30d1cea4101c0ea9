-- At each command that the table names, the row is the one that looking it up finds, by computation. A range of two commands is taken
-- apart into them. Any other command is none of the rows' commands.
use Prim.Native.Nat.{ℕ, zero, suc, ◌+◌, ◌≤◌, ◌<◌}
use mathlib.Core.Path.{◌≡◌, refl, sym, subst}
use mathlib.Core.Logic.{⊎_elim}
use mathlib.Core.List.{List, [], ◌∷◌}
use mathlib.Core.Bool.{Bool, true, false, ◌&&◌, ◌||◌}
use native.Mathlib.Nat.{eq-or-lt_of_le}
use native.Mathlib.Omega.{arith}
use lib.Dec.{T, ltb, leb}
use lib.Ieee.Fits.{and_l, and_r}
use mir.Val.{has_key}
use types.Run.{OneOf, hit}
use borrow.Author.Tests.{ne_eqb, ltb-true, leb-true}
use Rattle.rules.specs.Items.{Row, commands, waypoint, return_home, delay, distance, yaw, jump, change_speed, set_servo, return_point}
use Rattle.std.specs.Prelude.{Option, None}
use Rattle.std.specs.Option.{option_map}
use Rattle.item_rules.specs.Table.{row_of, lookup}
use Rattle.item_rules.specs.declared.table.Row as code
use Rattle.item_rules.proofs.table.row_of.Goals as goal
use Rattle.item_rules.proofs.table.row_of.Goals.{in-16-1, in-17-1, in_default+else-command-lt16+then-command-lt20, in_default+else-command-lt16+else-command-lt20+then-command-lt23}

-- looking the command n up finds what l says
abbrev Agrees : Bool → Option code.Row → ℕ → Type 0
Agrees home l n = option_map (row_of n) l ≡ lookup n (commands home)

at : (home : Bool) {l m : Option code.Row} {n k : ℕ} → m ≡ l → n ≡ k → Agrees home l k → Agrees home m n
at home {l} {m} {n} {k} e h a = subst (λ (x : Option code.Row). Agrees home x n) (sym e) (subst (λ (x : ℕ). Agrees home l x) (sym h) a)

-- P at each of w numbers from k on
abbrev Along : (ℕ → Type 0) → ℕ → ℕ → Type 0
Along P k zero = Unit
Along P k (suc w) = P k × Along P (suc k) w

among : (P : ℕ → Type 0) (n k w : ℕ) → k ≤ n → n < k + w → Along P k w → P n
among P n k zero l h a = absurd (omega arith)
among P n k (suc w) l h a =
    ⊎_elim (λ e. subst P e a.0) (λ g. among P n (suc k) w g (omega arith) a.1) (eq-or-lt_of_le l)

within : (home : Bool) {l m : Option code.Row} {n : ℕ} (k w : ℕ) → m ≡ l → k ≤ n → n < k + w → Along (Agrees home l) k w → Agrees home m n
within home {l} {m} {n} k w e low high a = subst (λ (x : Option code.Row). Agrees home x n) (sym e) (among (Agrees home l) n k w low high a)

-- ---- a command that is none of the match's single ones
-- the single commands of its arms, the last arm first
abbrev singles : List (List ℕ)
singles =
    (5100 ∷ []) ∷ (return_point ∷ []) ∷ (set_servo ∷ []) ∷ (change_speed ∷ []) ∷ (jump ∷ []) ∷ (yaw ∷ []) ∷ (delay ∷ distance ∷ []) ∷ (return_home ∷ []) ∷ (17 ∷ 31 ∷ []) ∷ (waypoint ∷ []) ∷ []

-- n has missed each of them
abbrev Missed : List (List ℕ) → ℕ → Type 0
Missed [] n = Unit {0}
Missed (ks ∷ arms) n = Missed arms n × (OneOf ks n → ⊥)

abbrev single : List (List ℕ) → ℕ → Bool
single [] k = false
single (ks ∷ arms) k = has_key ks k || single arms k

one_of : (ks : List ℕ) (k n : ℕ) → T (has_key ks k) → n ≡ k → OneOf ks n
one_of ks k n t e = hit ks n (subst (λ (x : ℕ). T (has_key ks x)) (sym e) t)

missed : (arms : List (List ℕ)) {n : ℕ} → Missed arms n → (k : ℕ) → T (single arms k) → n ≡ k → ⊥
missed [] m k t e = t
missed (ks ∷ arms) {n} m k t e = go (has_key ks k) refl t (missed arms m.0 k)
  where
    go : (b : Bool) → has_key ks k ≡ b → T (b || single arms k) → (T (single arms k) → n ≡ k → ⊥) → ⊥
    go true h t later = m.1 (one_of ks k n (rw h tt) e)
    go false h t later = later t e

-- so it is past k where it is not before
past : {k n : ℕ} → k ≤ n → Missed singles n → T (single singles k) → suc k ≤ n
past {k} l m t = ⊎_elim (λ e. absurd (missed singles m k t (sym e))) (λ g. g) (eq-or-lt_of_le l)

-- ---- a command without a row: within some bounds, and none of the single ones
-- every row's command is outside the bounds, or a single one
abbrev outside : ℕ → ℕ → List Row → Bool
outside low high [] = true
outside low high (r ∷ rs) = (ltb r.command low || (leb high r.command || single singles r.command)) && outside low high rs

module _ (n low high : ℕ) (l : low ≤ n) (h : n < high) (m : Missed singles n) where
  apart : (k : ℕ) → T (ltb k low || (leb high k || single singles k)) → k ≡ n → ⊥
  apart k t e = go (ltb k low) (leb high k) refl refl t
    where
      go : (a b : Bool) → ltb k low ≡ a → leb high k ≡ b → T (a || (b || single singles k)) → ⊥
      go true b p q t = omega (arith, ltb-true k low p, e)
      go false true p q t = omega (arith, leb-true high k q, e)
      go false false p q t = missed singles m k t (sym e)

  unlisted : (rs : List Row) → T (outside low high rs) → None ≡ lookup n rs
  unfolding lookup
  unlisted [] t = refl
  unlisted (r ∷ rs) t =
      let first = ltb r.command low || (leb high r.command || single singles r.command) in
      rw (ne_eqb r.command n (apart r.command (and_l first (outside low high rs) t)))
      (unlisted rs (and_r first (outside low high rs) t))

pub returns-in-20 : goal.returns-in-20
unfolding lookup
returns-in-20 c = at _ c.listed_as.ensures c.in-20.is refl

pub returns-in-112 : goal.returns-in-112
unfolding lookup
returns-in-112 c = ⊎_elim (λ h. at _ c.listed_as-in-112.ensures h refl) (λ h. at _ c.listed_as-in-112.ensures h refl) c.in-112.is

pub returns-in-115 : goal.returns-in-115
unfolding lookup
returns-in-115 c = at _ c.listed_as-in-115.ensures c.in-115.is refl

pub returns-in-177 : goal.returns-in-177
unfolding lookup
returns-in-177 c = at _ c.listed_as-in-177.ensures c.in-177.is refl

pub returns-in-178 : goal.returns-in-178
unfolding lookup
returns-in-178 c = at _ c.listed_as-in-178.ensures c.in-178.is refl

pub returns-in-183 : goal.returns-in-183
unfolding lookup
returns-in-183 c = at _ c.listed_as-in-183.ensures c.in-183.is refl

pub returns-in-5000 : goal.returns-in-5000
unfolding lookup
returns-in-5000 c = at _ c.listed_as-in-5000.ensures c.in-5000.is refl

pub returns-in-5100 : goal.returns-in-5100
unfolding lookup
returns-in-5100 c = at _ c.listed_as-in-5100.ensures c.in-5100.is refl

pub returns-in-5001-to-5002 : goal.returns-in-5001-to-5002
unfolding lookup
returns-in-5001-to-5002 c =
    let w = c.in-5001-to-5002 in
    within _ 5001 2 c.listed_as-in-5001-to-5002.ensures (past w.if-command-lt5000-own.false w.in_default-own.rest tt) w.if-command-lt5003-own.true (refl, (refl, tt))

pub returns-in-5003-to-5004 : goal.returns-in-5003-to-5004
unfolding lookup
returns-in-5003-to-5004 c =
    let w = c.in-5003-to-5004 in
    within _ 5003 2 c.listed_as-in-5003-to-5004.ensures w.if-command-lt5003-own.false w.if-command-lt5005-own.true (refl, (refl, tt))

pub returns-in_default : goal.returns-in_default
unfolding lookup
returns-in_default c =
    let w = c.in_default in
    unlisted c.args.command 0 16 (omega arith) w.if-command-lt16-own.true w.in_default-own.rest (commands c.args.home) tt

pub returns-in_default-2 : goal.returns-in_default-2
unfolding lookup
returns-in_default-2 c =
    let w = c.in_default in
    unlisted c.args.command 23 5000 w.if-command-lt23-own.false w.if-command-lt5000-own.true w.in_default-own.rest (commands c.args.home) tt

pub returns-in_default-3 : goal.returns-in_default-3
unfolding lookup
returns-in_default-3 c =
    let w = c.in_default in
    unlisted c.args.command 5005 65536 w.if-command-lt5005-own.false (omega arith) w.in_default-own.rest (commands c.args.home) tt

pub returns-in-17 : goal.returns-in-17
unfolding lookup
returns-in-17 c =
    elim c.in-17-1.branch [
      | in-17-1 w ↦ ⊎_elim (λ h. at _ c.listed_as-in-17.ensures h refl) (λ h. at _ c.listed_as-in-17.ensures h refl) w.in-17-1.keys2
      | in_default+else-command-lt16+else-command-lt20+then-command-lt23 w ↦
          within _ 21 2 c.listed_as-in-17.ensures (past w.if-command-lt20-1.false w.in_default-1.rest tt) w.if-command-lt23-1.true (refl, (refl, tt))
    ]

pub returns-in-16 : goal.returns-in-16
unfolding lookup
returns-in-16 c =
    elim c.in-16-1.branch [
      | in-16-1 w ↦ at _ c.listed_as-in-16.ensures w.in-16-1.keys1 refl
      | in_default+else-command-lt16+then-command-lt20 w ↦
          within _ 18 2 c.listed_as-in-16.ensures (past (past w.if-command-lt16-1.false w.in_default-1.rest tt) w.in_default-1.rest tt) w.if-command-lt20-1.true (refl, (refl, tt))
    ]
