-- Each return is the first test that holds, in the rules' order: one lemma a return, over the facts on its way.
use mathlib.Core.Path.{◌≡◌, refl, sym, ◌∙◌}
use mathlib.Core.Bool.{Bool, true, false, not, cond}
use Prim.Native.Nat.{ℕ, ◌<◌, ◌≤◌}
use lib.Dec.{ltb}
use borrow.Author.Tests.{lt-ltb, le-ltb}
use Rattle.std.proofs.lemmas.Result.{err_from_is_err_and}
use Rattle.rules.specs.Limits.{store_words, reply_bytes_min, short_store, out_of_range, short_reply}
use Rattle.rules.specs.Calls.{refuses, command_done, done, heard}
use Rattle.limits.specs.Codes.{refused}
use Rattle.refusal.specs.Refusals.{refusal_of, room_refusal, HeardDone, done_heard}
use Rattle.refusal.proofs.room_refusal.Goals as goal

module _ (ranged : Bool) (store reply : ℕ) where
  earlier : (first : ℕ) → first ≡ refusal_of (heard ranged (done store)) → (first ≡ 0 → ⊥) → first ≡ room_refusal ranged store reply
  unfolding heard room_refusal
  earlier first by some = by ∙ go (ltb store store_words) (not ranged) (λ none. some (by ∙ none))
    where
      go : (a b : Bool) → (refusal_of (cond a (refuses short_store) (cond b (refuses out_of_range) command_done)) ≡ 0 → ⊥)
          → refusal_of (cond a (refuses short_store) (cond b (refuses out_of_range) command_done)) ≡ cond a short_store (cond b out_of_range (cond (ltb reply reply_bytes_min) short_reply 0))
      go true b some' = refl
      go false true some' = refl
      go false false some' = absurd (some' refl)

  module _ (none : 0 ≡ refusal_of (heard ranged (done store))) where
    there : HeardDone ranged store
    there = done_heard ranged store (sym none)

    short_reply_lem : reply < reply_bytes_min → short_reply ≡ room_refusal ranged store reply
    unfolding room_refusal
    short_reply_lem short = simp (le-ltb _ _ there.long, there.in_range, lt-ltb _ _ short)

    passes : reply_bytes_min ≤ reply → 0 ≡ room_refusal ranged store reply
    unfolding room_refusal
    passes room = simp (le-ltb _ _ there.long, there.in_range, le-ltb _ _ room)

pub returns-in_err-done_refusal : goal.returns-in_err-done_refusal
returns-in_err-done_refusal c =
    let p = err_from_is_err_and c.from_residual.result c.from_residual.ensures.1 in
    rw (p.1, p.2) (earlier _ _ _ _ c.in_err-done_refusal.ensures (refused _))

pub returns-then-reply_len-lt-REPLY_BYTES : goal.returns-then-reply_len-lt-REPLY_BYTES
returns-then-reply_len-lt-REPLY_BYTES c = short_reply_lem _ _ _ c.in_ok-done_refusal.ensures c.if-reply_len-lt-REPLY_BYTES.true

pub returns : goal.returns
returns c = passes _ _ _ c.in_ok-done_refusal.ensures c.if-reply_len-lt-REPLY_BYTES.false
