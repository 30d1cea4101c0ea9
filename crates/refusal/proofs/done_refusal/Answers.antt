-- Each return is the first test that holds, in the rules' order: one lemma a return, over the facts on its way.
use mathlib.Core.Path.{◌≡◌}
use mathlib.Core.Bool.{Bool, true, false, not}
use Prim.Native.Nat.{ℕ, ◌<◌, ◌≤◌}
use borrow.Author.Rules.{rules}
use borrow.Author.Tests.{lt-ltb, le-ltb}
use Rattle.rules.specs.Limits.{store_words, short_store, out_of_range}
use Rattle.rules.specs.Calls.{done, heard}
use Rattle.refusal.specs.Refusals.{refusal_of}
use Rattle.refusal.proofs.done_refusal.Goals as goal

module _ (ranged : Bool) (store : ℕ) where
  short_store_lem : store < store_words → short_store ≡ refusal_of (heard ranged (done store))
  unfolding heard
  short_store_lem short = simp (lt-ltb _ _ short)

  out_of_range_lem : store_words ≤ store → not ranged ≡ true → out_of_range ≡ refusal_of (heard ranged (done store))
  unfolding heard
  out_of_range_lem long out = simp (le-ltb _ _ long, out)

  passes : store_words ≤ store → not ranged ≡ false → 0 ≡ refusal_of (heard ranged (done store))
  unfolding heard
  passes long out = simp (le-ltb _ _ long, out)

pub returns-then-store_len-lt-STORE_WORDS : goal.returns-then-store_len-lt-STORE_WORDS
returns-then-store_len-lt-STORE_WORDS c = search (short_store_lem, rules)

pub returns-then-not-ranged : goal.returns-then-not-ranged
returns-then-not-ranged c = search (out_of_range_lem, rules)

pub returns : goal.returns
returns c = search (passes, rules)
