-- `writing::write_words` meets its contract. The loop's invariant: the first i words are written.
use mathlib.Core.Path.{◌∙◌}
use native.Mathlib.Omega.{arith}
use lib.ListN.{length-set}
use borrow.Author.Rules.{rules}
use Rattle.writing.proofs.WordWays.{no_words, no_word_place, no_word_room, words_written_lem, none_written, word_written}
use Rattle.writing.proofs.write_words.Goals as goal

pub returns-then-payload-ne0 : goal.returns-then-payload-ne0
returns-then-payload-ne0 c = search (no_words, rules)

pub returns-then-store-at : goal.returns-then-store-at
returns-then-store-at c = search (no_word_place, rules)

pub returns-then-store-at-2 : goal.returns-then-store-at-2
returns-then-store-at-2 c = search (no_word_room, rules)

pub loop-i-init : goal.loop-i-init
loop-i-init c = search (none_written, rules)

pub loop-i-preserved : goal.loop-i-preserved
loop-i-preserved c = let a = c.args in (
  length-set c.loop-i.store _ _ ∙ c.loop-i.invariant.0,
  word_written a.store.now a.at a.payload.now c.loop-i.store c.loop-i.i c.u32_at.result (omega arith) c.loop-i.invariant.1 c.u32_at.ensures,
)

pub returns : goal.returns
returns c = search (words_written_lem, rules)
