-- What is written, for each way that the tests can go.
use Prim.Native.Nat.{ℕ, ◌+◌, ◌-◌, ◌<◌, ◌≤◌}
use mathlib.Core.Path.{◌≡◌}
use mathlib.Core.List.{List}
use native.Mathlib.Omega.{arith}
use lib.ListN.{length}
use lib.Seq.{drop-drop}
use borrow.Rule.Slice.PartMut.{put_mid}
use borrow.Author.Tests.{le-leb, lt-leb}
use Rattle.writing.specs.Written.{written}

module _ (store : List ℕ) (at : ℕ) (more : List ℕ) where
  pub no_place : length store < at → store ≡ written store at more
  unfolding written
  no_place h = rw (lt-leb (at + length more) (length store) (omega arith))

  pub no_room : at ≤ length store → length store - at < length more → store ≡ written store at more
  unfolding written
  no_room h short = rw (lt-leb (at + length more) (length store) (omega arith))

  module _ (h : at ≤ length store) (fits : length more ≤ length store - at) where
    pub copied : (part : List ℕ) → part ≡ more → put_mid at (at + length more - at) store part ≡ written store at more
    unfolding written
    copied part e =
        let n : at + length more - at ≡ length more = omega arith in
        rw (le-leb (at + length more) (length store) (omega arith), e, n, drop-drop (length more) at store)
