-- Cases of the move: how long the stores are, its outcomes on both sides of each edge and in their order, and what is moved of an item. One table, and one statement:
-- every case holds.
use Rattle.std.specs.Prelude.{refl, List, [], ◌∷◌, ◌++◌, true, false}
use Rattle.rules.specs.Limits.{flight, rally}
use Rattle.rules.specs.Payload.{Bytes}
use Rattle.rules.specs.Cases.{computing, Case, numbers, bytes, ◌is◌, Hold}
use Rattle.places.specs.Forms as form
use Rattle.places.specs.Forms.{least}
use Rattle.moves.specs.Moves.{outcome_of, placed}

-- the first 28 bytes of an item: params, x, y and z
abbrev front : Bytes
front = 1 ∷ 0 ∷ 0xc0 ∷ 0x7f ∷ 2 ∷ 0 ∷ 0 ∷ 0 ∷ 3 ∷ 0 ∷ 0 ∷ 0 ∷ 4 ∷ 0 ∷ 0 ∷ 0x80 ∷ 5 ∷ 0 ∷ 0 ∷ 0 ∷ 6 ∷ 0 ∷ 0 ∷ 0xff ∷ 7 ∷ 0 ∷ 0 ∷ 0 ∷ []

abbrev pub moves : List Case
moves =
    (numbers (least form.bytes ∷ least form.words ∷ []) is numbers (26752 ∷ 5632 ∷ []))
    -- "14 if either store is too short, then 15, .. else 1"
    ∷ (numbers (outcome_of true 26752 5632 ∷ outcome_of true 26751 5632 ∷ outcome_of true 26752 5631 ∷ outcome_of true 0 0 ∷ []) is numbers (1 ∷ 14 ∷ 14 ∷ 14 ∷ []))
    ∷ (numbers (outcome_of false 26752 5632 ∷ outcome_of false 26751 5632 ∷ outcome_of false 26752 5631 ∷ []) is numbers (15 ∷ 14 ∷ 14 ∷ []))
    -- an item as it is stored stays as it is
    ∷ (bytes (placed flight 3 (front ++ (3 ∷ 0 ∷ 0xb1 ∷ 0 ∷ 0 ∷ 0 ∷ 2 ∷ 0 ∷ 1 ∷ 0 ∷ []))) is bytes (front ++ (3 ∷ 0 ∷ 0xb1 ∷ 0 ∷ 0 ∷ 0 ∷ 2 ∷ 0 ∷ 1 ∷ 0 ∷ [])))
    -- "these eight words only": seq, kind, address and current that a host wrote are not moved, and nothing is judged
    ∷ (bytes (placed rally 31 (front ++ (3 ∷ 9 ∷ 0xff ∷ 0xfe ∷ 7 ∷ 8 ∷ 0xfd ∷ 1 ∷ 0xfc ∷ 9 ∷ []))) is bytes (front ++ (31 ∷ 0 ∷ 0xff ∷ 0xfe ∷ 0 ∷ 0 ∷ 0xfd ∷ 0 ∷ 0xfc ∷ 2 ∷ [])))
    ∷ []

-- Every case holds.
pub moves_hold : Hold moves
unfolding computing
moves_hold = refl
