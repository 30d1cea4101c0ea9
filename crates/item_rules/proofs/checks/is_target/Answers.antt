-- By the variant that `whole_of` returned, which is the rules' own reading. A count is below 2 ^ 31, so it is itself as an i32.
use mathlib.Core.Path.{◌≡◌, ◌∙◌}
use mathlib.Core.Bool.{not, ◌&&◌}
use lib.Dec.{eqb}
use lib.IntN.{pos}
use lib.Signed.{le_z, lt_z}
use mir.Syntax.{w32}
use mir.Val.{SFits, to_z, of_z}
use native.Mathlib.Omega.{arith}
use borrow.Author.Rules.{rules}
use Rattle.rules.specs.Values.{whole_of}
use Rattle.values.specs.Wholes.{read_as}
use Rattle.values.specs.Integers.{back, target_is}
use Rattle.item_rules.proofs.Readings.{by_reading, no_target}
use Rattle.item_rules.proofs.checks.is_target.Goals as goal

pub returns : goal.returns
returns c = let a = c.args in
    let read = c.whole_of in
    by_reading read.result c.is_ok_and.ensures
    (λ n is p.
    let fits : SFits w32 n = search rules in
    let t : c.is_ok_and.result ≡ (((le_z (pos 0) (back n) && lt_z (back n) (to_z w32 a.count)) && not (eqb (of_z w32 n) a.own)) && not (a.home && eqb (of_z w32 n) 0)) = search (p, rules) in
    t ∙ target_is (whole_of a.x) n read.result is read.ensures fits a.home a.count a.own (omega arith))
    (λ e is p. p ∙ no_target _ (read_as read.ensures is) a.home a.count a.own)
