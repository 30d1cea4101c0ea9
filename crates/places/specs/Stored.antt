-- The fields of an item as numbers of the store, and counting items by their command.
use Rattle.std.specs.Prelude.{◌≡◌, refl, List, [], ◌∷◌, ◌++◌, Bool, true, false, cond, ℕ, suc, ◌%◌, get_or, eqb}
use Rattle.std.proofs.Common.{ap, ◌∙◌, arith}
use Rattle.rules.specs.Limits.{clock_values}
use Rattle.rules.specs.Payload.{Bytes}
use Rattle.rules.specs.Messages.{Item, item_in}
use Rattle.rules.specs.Words.{last_word, command_in}
use Rattle.rules.specs.Items.{jump, return_point, jumps_among}
use Rattle.rules.specs.Fence.{return_points}
use Rattle.rule_laws.specs.Words.{stored_says}
use Rattle.places.specs.Forms.{words}

-- the command and param 1 of the stored item that eight words are, wherever it stands
pub command_is : (w : List ℕ) (kind n : ℕ) → (item_in (words.stored w kind n)).command ≡ command_in (get_or w last_word 0)
command_is w kind n = ap (λ (i : Item). i.command) (stored_says _) ∙ omega arith

pub param1_is : (w : List ℕ) (kind n : ℕ) → (item_in (words.stored w kind n)).param1 ≡ get_or w 0 0 % clock_values
param1_is w kind n = ap (λ (i : Item). i.param1) (stored_says _)

-- ---- counting items by their command

-- how many of some stored items have a command
unfoldable pub with_command : (command : ℕ) → List Bytes → ℕ
with_command command [] = 0
with_command command (b ∷ bs) = cond (eqb (item_in b).command command) (suc (with_command command bs)) (with_command command bs)

pub jumps_are : (items : List Bytes) → with_command jump items ≡ jumps_among items
unfolding with_command jumps_among
jumps_are [] = refl
jumps_are (b ∷ bs) = rw (jumps_are bs)

pub points_are : (items : List Bytes) → with_command return_point items ≡ return_points items
unfolding with_command return_points
points_are [] = refl
points_are (b ∷ bs) = rw (points_are bs)

turn : (x y : Bool) (n : ℕ) → cond x (suc (cond y (suc n) n)) (cond y (suc n) n) ≡ cond y (suc (cond x (suc n) n)) (cond x (suc n) n)
turn true true n = refl
turn true false n = refl
turn false true n = refl
turn false false n = refl

-- one more item at the end
pub with_more : (command : ℕ) (items : List Bytes) (b : Bytes)
    → with_command command (items ++ (b ∷ [])) ≡ cond (eqb (item_in b).command command) (suc (with_command command items)) (with_command command items)
unfolding with_command
with_more command [] b = refl
with_more command (a ∷ items) b =
    rw (with_more command items b) (turn (eqb (item_in a).command command) (eqb (item_in b).command command) (with_command command items))
