-- The bytes behind a reply.
use Rattle.std.proofs.Common.{◌≡◌, ℕ, List, length, take, drop, arith, take_all, length-drop}

-- from a place on, however many more
pub rest_of : (len : ℕ) (l : List ℕ) → take (length l) (drop len l) ≡ drop len l
rest_of len l = take_all (length l) (drop len l) (omega (arith, length-drop len l))
