-- Text in a lent buffer.
use Rattle.std.specs.Prelude.{ℕ, ◌-◌, ◌+◌, ◌≡◌, List, [], ◌∷◌, ◌++◌, length, take}
use Rattle.adding.specs.declared.Text.{Text}

-- the text so far, and how many bytes there is room for behind it
pub record Filled : Type 0 where
  pub text : List ℕ
  pub left : ℕ

-- an empty buffer of so many bytes
abbrev pub emptied : ℕ → Filled
emptied size = record { text = []; left = size }

-- how many bytes a buffer holds
abbrev pub size_of : Filled → ℕ
size_of filled = length filled.text + filled.left

-- what a text is in its buffer
abbrev pub filled : Text → Filled
filled t = record { text = take t.len t.bytes.now; left = length t.bytes.now - t.len }

-- more stands behind the text so far, as far as there is room
pub record AddsTo (more : List ℕ) (before after : Filled) : Type 0 where
  pub text : after.text ≡ before.text ++ take before.left more
  pub left : after.left ≡ before.left - length more

-- and in the same buffer
pub record Adds (more : List ℕ) (before after : Text) : Type 0 where
  pub same : after.bytes.ghost_name ≡ before.bytes.ghost_name
  pub more_stands : AddsTo more (filled before) (filled after)

-- the texts of each of a list, one after another
unfoldable pub each : {A : Type 0} → (A → List ℕ) → List A → List ℕ
each text [] = []
each text (x ∷ xs) = text x ++ each text xs
