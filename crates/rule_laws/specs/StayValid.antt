-- M-101, "Stored plans stay valid": a row of the command table that is made not positional accepts every item that it accepted. And the result for
-- return home, which its frame alone settles.
use Rattle.std.specs.Prelude.{ℕ, ◌<◌, ◌≡◌, List, [], ◌∷◌, map, Bool, not, ◌&&◌, ◌||◌, length, get_or, take, eqb}
use Rattle.std.proofs.Common.{arith}
use Rattle.std.proofs.Math.Path.{refl}
use Rattle.std.proofs.Math.Bool.{true, false, cond}
use Rattle.rules.specs.Limits.{flight, x_limit, y_limit, accepted, unsupported, unsupported_frame}
use Rattle.rules.specs.Payload.{Bytes}
use Rattle.rules.specs.Messages.{Item, item_in}
use Rattle.rules.specs.Values.{signed, within, float, finite}
use Rattle.rules.specs.Items.{Row, commands, return_home, param_ok, among, positional_frames, mission_frame, frame_ok, jumps_among, place_fault, room_fault, fault_in, fault_among, not_home, fault}
use Rattle.rule_laws.specs.Tests.{either, either₂}

-- a row made positional or not, all else as it is
abbrev pub placed : Bool → Row → Row
placed positional r = record { command = r.command; kind = r.kind; positional = positional; param1 = r.param1; param2 = r.param2 }

-- a table in which the rows of a command are made positional or not
abbrev pub placed_at : (command : ℕ) → Bool → List Row → List Row
placed_at command positional rows = map (λ (r : Row). cond (eqb r.command command) (placed positional r) r) rows

-- ---- a row

-- where the first is accepted, so is the second
abbrev Stays : ℕ → ℕ → Type 0
Stays a b = a ≡ accepted → b ≡ accepted

frame_stays : (positional : Bool) (frame : ℕ) {a b : ℕ} → Stays a b → Stays (cond (not (frame_ok positional frame)) unsupported_frame a) (cond (not (frame_ok false frame)) unsupported_frame b)
unfolding frame_ok
frame_stays positional frame {a} {b} h = go (among positional_frames frame) positional (eqb mission_frame frame)
  where
    go : (degrees positional mission : Bool) → Stays (cond (not (degrees || (not positional && mission))) unsupported_frame a) (cond (not (degrees || mission)) unsupported_frame b)
    go true positional mission e = h e
    go false false true e = h e
    go false false false e = absurd (omega arith)
    go false true mission e = absurd (omega arith)

place_stays : (positional : Bool) (item : Item) (rest : ℕ) → Stays (place_fault positional item rest) (place_fault false item rest)
unfolding place_fault
place_stays false item rest = λ e. e
place_stays true item rest =
    either (λ (a : ℕ). Stays a rest) (not (within x_limit (signed item.x))) (λ t e. absurd (omega arith))
    (λ t. either (λ (a : ℕ). Stays a rest) (not (within y_limit (signed item.y))) (λ t e. absurd (omega arith))
    (λ t. either (λ (a : ℕ). Stays a rest) (not (finite (float item.z))) (λ t e. absurd (omega arith)) (λ t e. e)))

-- Every item that a row accepts, as any number of a plan of any count and after any jumps, the same row accepts when it is not positional.
pub row_stays : (r : Row) (count own jumps : ℕ) (item : Item) → fault_in r count own jumps item ≡ accepted → fault_in (placed false r) count own jumps item ≡ accepted
unfolding fault_in
row_stays r count own jumps item =
    frame_stays r.positional item.frame
    (either₂ Stays (not (param_ok r.param1 count own (float item.param1))) (λ t e. e)
    (λ t. either₂ Stays (not (param_ok r.param2 count own (float item.param2))) (λ t e. e)
    (λ t. place_stays r.positional item (room_fault jumps item))))

-- ---- a table

-- The same of every table, for the rows of any command.
pub table_stays :
    (command : ℕ) (rows : List Row) (kind count own jumps : ℕ) (item : Item) →
    fault_among rows kind count own jumps item ≡ accepted →
    fault_among (placed_at command false rows) kind count own jumps item ≡ accepted
unfolding fault_among
table_stays command [] kind count own jumps item = λ e. e
table_stays command (r ∷ rows) kind count own jumps item = go (eqb r.command command) (table_stays command rows kind count own jumps item)
  where
    in_row : (s : Row) → ℕ
    in_row s = cond (eqb s.kind kind) (fault_in s count own jumps item) unsupported

    go : (t : Bool) {a b : ℕ} → Stays a b → Stays
        (cond (eqb r.command item.command) (in_row r) a)
        (cond (eqb (cond t (placed false r) r).command item.command) (in_row (cond t (placed false r) r)) b)
    go true later = either₂ Stays (eqb r.command item.command) (λ t. either₂ Stays (eqb r.kind kind) (λ t. row_stays r count own jumps item) (λ t e. e)) (λ t. later)
    go false later = either₂ Stays (eqb r.command item.command) (λ t e. e) (λ t. later)

-- every item of a stored plan of a kind is valid in its place, as items are judged
abbrev pub ValidBy : (judge : (kind count own jumps : ℕ) → Item → ℕ) → (kind : ℕ) → List Bytes → Type 0
ValidBy judge kind items = (n : ℕ) → n < length items → judge kind (length items) n (jumps_among (take n items)) (item_in (get_or items n [])) ≡ accepted

-- ---- return home

module _ (home : Bool) where
  -- the command table as it was: return home positional, every other row as it is
  abbrev pub commands_before : List Row
  commands_before = placed_at return_home true (commands home)

  -- the result for an item by that table
  abbrev pub fault_before : (kind count own jumps : ℕ) → Item → ℕ
  fault_before kind count own jumps item = cond (not_home home kind own item) unsupported (fault_among commands_before kind count own jumps item)

  -- An item that was valid is valid.
  pub item_stays : (kind count own jumps : ℕ) (item : Item) → fault_before kind count own jumps item ≡ accepted → fault home kind count own jumps item ≡ accepted
  unfolding fault
  item_stays kind count own jumps item = either₂ Stays (not_home home kind own item) (λ t e. e) (λ t. table_stays return_home commands_before kind count own jumps item)

  -- A stored plan that was valid is valid.
  pub plan_stays : (kind : ℕ) (items : List Bytes) → ValidBy fault_before kind items → ValidBy (fault home) kind items
  plan_stays kind items valid n inside = item_stays kind (length items) n (jumps_among (take n items)) (item_in (get_or items n [])) (valid n inside)

  -- Return home is judged by its frame alone, which must be one of the DO commands' frames: whatever its params, x, y and z. Only where item 0 is home it is not taken there.
  pub return_home_result :
      (count own jumps : ℕ) (item : Item) → item.command ≡ return_home
      → fault home flight count own jumps item ≡ cond (home && eqb own 0) unsupported (cond (frame_ok false item.frame) accepted unsupported_frame)
  unfolding fault fault_among fault_in param_ok place_fault
  return_home_result count own jumps item c = rw c (go home (eqb own 0) (frame_ok false item.frame))
    where
      go : (h first t : Bool)
          → cond (h && true && first && true) unsupported (cond (not t) unsupported_frame accepted) ≡ cond (h && first) unsupported (cond t accepted unsupported_frame)
      go true true t = refl
      go true false true = refl
      go true false false = refl
      go false first true = refl
      go false first false = refl
