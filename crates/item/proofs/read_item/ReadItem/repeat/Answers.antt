-- By the variant that `whole_of` returned, which is the rules' own reading of param 2's value. That is its pattern's, by what the item tells.
use Rattle.std.proofs.Common.{◌≡◌, ℤ, ap, ◌∙◌, rules}
use Rattle.std.specs.Prelude.{Result, Err}
use Rattle.rules.specs.Values.{whole_of}
use Rattle.rules.specs.NextCommand.{or_one, repeat_of}
use Rattle.values.specs.declared.NotWhole.{NotWhole}
use Rattle.values.specs.Wholes.{meant, read_as}
use Rattle.values.specs.Integers.{back_is}
use Rattle.item.specs.declared.Item.{Item}
use Rattle.item.specs.declared.read_item.ReadItem.{ReadItem}
use Rattle.item.specs.Patterns.{patterns}
use Rattle.item.proofs.read_item.ReadItem.repeat.Goals as goal

repeats : (item : ReadItem) (r q : Result ℤ NotWhole) → meant r ≡ whole_of item.plain.param2 → r ≡ q → or_one (meant q) ≡ repeat_of (patterns item.plain)
repeats item r q reads is = ap or_one (read_as reads is ∙ ap (λ (i : Item). whole_of i.param2) item.values)

pub returns-in-Ok : goal.returns-in-Ok
unfolding or_one
returns-in-Ok c = back_is c.in-Ok.times (search rules) ∙ repeats c.args.self c.whole_of.result _ c.whole_of.ensures c.in-Ok.is

pub returns-in-Err-NoValue : goal.returns-in-Err-NoValue
unfolding or_one
returns-in-Err-NoValue c = repeats c.args.self c.whole_of.result _ c.whole_of.ensures (c.in-Err-NoValue.is ∙ ap (λ (e : NotWhole). Err e) c.in-Err-NoValue.field-0-is)

pub returns-in-Err-Fraction : goal.returns-in-Err-Fraction
unfolding or_one
returns-in-Err-Fraction c = repeats c.args.self c.whole_of.result _ c.whole_of.ensures (c.in-Err-Fraction.is ∙ ap (λ (e : NotWhole). Err e) c.in-Err-Fraction.field-0-is)
