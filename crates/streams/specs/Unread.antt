-- Standard input in pieces: what of a buffer is read from the input and not yet used.
use Rattle.std.specs.Prelude.{ℕ, ◌+◌, ◌-◌, ◌≤◌, ◌≡◌, List, length, take, drop}

-- what stands from one place up to another
abbrev pub unread : List ℕ → ℕ → ℕ → List ℕ
unread buffer at end = take (end - at) (drop at buffer)

-- r bytes are at the start: those that were unread
pub record Moved (before : List ℕ) (at end : ℕ) (after : List ℕ) (r : ℕ) : Type 0 where
  pub count : r ≡ length (unread before at end)
  pub front : take r after ≡ unread before at end
  pub room : length after ≡ length before

-- r bytes were read from a place on; those before it stay
pub record ReadBehind (before : List ℕ) (at : ℕ) (after : List ℕ) (r : ℕ) : Type 0 where
  pub front : take at after ≡ take at before
  pub inside : at + r ≤ length after
  pub room : length after ≡ length before

-- reading on where fewer than n bytes may be unread
pub record ReadOn (before : List ℕ) (at end n : ℕ) (after : List ℕ) (at' end' : ℕ) : Type 0 where
  -- what was unread is unread still, before what is read behind it
  pub kept : take (length (unread before at end)) (unread after at' end') ≡ unread before at end
  pub inside : end' ≤ length after
  pub room : length after ≡ length before
  -- where n are unread already, nothing is read, and nothing moves
  pub same : n + at ≤ end → end ≤ length before → (after ≡ before) × (at' ≡ at) × (end' ≡ end)
