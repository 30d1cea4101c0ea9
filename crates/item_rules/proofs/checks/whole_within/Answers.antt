-- By the variant that `whole_of` returned, which is the rules' own reading.
use mathlib.Core.Path.{◌≡◌, ◌∙◌}
use mathlib.Core.Bool.{◌&&◌}
use lib.Signed.{le_z}
use mir.Syntax.{w32}
use mir.Val.{SFits}
use borrow.Author.Rules.{rules}
use Rattle.rules.specs.Values.{whole_of}
use Rattle.values.specs.Wholes.{read_as}
use Rattle.values.specs.Integers.{back, within_is}
use Rattle.item_rules.proofs.Readings.{by_reading, no_whole}
use Rattle.item_rules.proofs.checks.whole_within.Goals as goal

pub returns : goal.returns
returns c = let read = c.whole_of in
    by_reading read.result c.is_ok_and.ensures
    (λ n is p.
    let fits : SFits w32 n = search rules in
    let t : c.is_ok_and.result ≡ le_z (back c.args.low) (back n) && le_z (back n) (back c.args.high) = search (p, rules) in
    t ∙ within_is (whole_of c.args.x) n read.result is read.ensures fits c.args.low c.args.high c.ranges.low c.ranges.high)
    (λ e is p. p ∙ no_whole _ (read_as read.ensures is) c.args.low c.args.high)
