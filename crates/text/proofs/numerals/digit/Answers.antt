-- `text::numerals::digit` meets its contract, by its test.
use borrow.Author.Rules.{rules}
use borrow.Author.Tests.{lt-ltb, le-ltb}
use Rattle.text.specs.Digits.{digit}
use Rattle.text.proofs.numerals.digit.Goals as goal

pub returns-then-n-lt10 : goal.returns-then-n-lt10
unfolding digit
returns-then-n-lt10 c = search (rules, lt-ltb, le-ltb)

pub returns-else-n-lt10 : goal.returns-else-n-lt10
unfolding digit
returns-else-n-lt10 c = search (rules, lt-ltb, le-ltb)
