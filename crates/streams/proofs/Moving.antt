-- Moving the unread bytes of a buffer to its start.
use Prim.Native.Nat.{ℕ, ◌+◌, ◌-◌, ◌<◌, ◌≤◌, min}
use mathlib.Core.Path.{◌≡◌, refl, ap, sym, ◌∙◌}
use mathlib.Core.List.{List, ◌++◌}
use native.Mathlib.Omega.{arith}
use mathlib.Core.Bool.{Bool, true, false, true≢false, ◌&&◌}
use lib.Dec.{leb}
use lib.ListN.{length, take, drop, length-append, length-take, length-drop}
use lib.Seq.{take-take, length-take-le, take-length}
use borrow.Rule.Slice.PartMut.{put_mid, take_put}
use borrow.Author.Tests.{leb-true, leb-false, le-leb, lt-leb}
use Rattle.std.specs.List.{copy_within}
use Rattle.std.proofs.Math.Seq.{paste}
use Rattle.std.proofs.lemmas.List.Edits.{take-paste}
use Rattle.adding.specs.Parts.{front_again}
use Rattle.streams.specs.Unread.{unread, Moved, ReadBehind, ReadOn}

module _ (before : List ℕ) (at end stop : ℕ) (ends : stop ≡ min end (length before)) where
  size : stop - at ≡ length (unread before at end)
  size = omega (arith, length-take (end - at) (drop at before), length-drop at before)

  front : take (stop - at) (drop at before) ≡ unread before at end
  front = ap (λ (k : ℕ). take k (drop at before)) size ∙ front_again (end - at) (drop at before)

  pub moved_none : stop ≤ at → Moved before at end before 0
  moved_none h =
      let none : 0 ≡ stop - at = omega arith in
      record { count = none ∙ size; front = ap (λ (k : ℕ). take k (drop at before)) none ∙ front; room = refl }

  pub moved_all : (after : List ℕ) → at < stop → after ≡ copy_within before at stop 0 → length after ≡ length before → Moved before at end after (stop - at)
  moved_all after h is room =
      let n = stop - at in
      let same : n ≡ 0 + n = omega arith in
      record {
        count = size;
        front =
            ap (λ (l : List ℕ). take n l) is
            ∙ ap (λ (k : ℕ). take k (paste before 0 (drop at before) n)) same
            ∙ take-paste before 0 (drop at before) n (omega arith) (omega (arith, length-drop at before))
            ∙ front;
        room = room;
      }

pub fits_behind : (before after : List ℕ) (at end r : ℕ) → Moved before at end after r → r ≤ length after
fits_behind before after at end r moved = omega (arith, moved.count, moved.room, length-take (end - at) (drop at before), length-drop at before)

-- the part behind the kept bytes, put back with what was read
pub read_behind : (before part : List ℕ) (at r : ℕ) → at ≤ length before → length (put_mid at (length before - at) before part) ≡ length before → r ≤ length part → ReadBehind before at (put_mid at (length before - at) before part) r
read_behind before part at r h room counts =
    let post = drop (length before - at) (drop at before) in
    record {
      front = take_put at (length before - at) before part h;
      inside = omega (arith, counts, length-append (take at before) (part ++ post), length-append part post, length-take-le at before h);
      room = room;
    }

-- the test of reading on

both_true : (a b : Bool) → (a && b) ≡ true → (a ≡ true) × (b ≡ true)
both_true true b e = (refl, e)
both_true false b e = absurd (true≢false (sym e))

leb_shift : (n at end : ℕ) → at ≤ end → leb n (end - at) ≡ leb (n + at) end
leb_shift n at end h = go (leb n (end - at)) refl
  where
    go : (t : Bool) → leb n (end - at) ≡ t → leb n (end - at) ≡ leb (n + at) end
    go true e = e ∙ sym (le-leb (n + at) end (omega (arith, leb-true n (end - at) e)))
    go false e = e ∙ sym (lt-leb (n + at) end (omega (arith, leb-false n (end - at) e)))

module _ (n at end : ℕ) (t : Bool) where
  pub not_enough : end < at → false ≡ (leb (n + at) end && t)
  not_enough h = rw (lt-leb (n + at) end (omega arith))

  pub is_enough : at ≤ end → (leb n (end - at) && t) ≡ (leb (n + at) end && t)
  is_enough h = rw (leb_shift n at end h)

module _ (before : List ℕ) (at end n : ℕ) (test : Bool) (is : test ≡ (leb (n + at) end && leb end (length before))) where
  pub enough_unread : test ≡ true → ReadOn before at end n before at end
  enough_unread holds =
      record {
        kept = take-length (unread before at end);
        inside = leb-true end (length before) (both_true (leb (n + at) end) (leb end (length before)) (sym is ∙ holds)).1;
        room = refl;
        same = λ _ _. (refl, refl, refl);
      }

  never : test ≡ false → n + at ≤ end → end ≤ length before → ⊥
  never fails few fits =
      let holds : test ≡ true = is ∙ rw (le-leb (n + at) end few, le-leb end (length before) fits) in
      true≢false (sym holds ∙ fails)

  pub read_more : (between after : List ℕ) (kept more : ℕ) → test ≡ false → Moved before at end between kept → ReadBehind between kept after more → ReadOn before at end n after 0 (kept + more)
  read_more between after kept more fails moved behind =
      let whole : kept + more - 0 ≡ kept + more = omega arith in
      record {
        kept =
            ap (λ (k : ℕ). take k (take (kept + more - 0) after)) (sym moved.count)
            ∙ ap (λ (k : ℕ). take kept (take k after)) whole
            ∙ take-take kept (kept + more) after (omega arith)
            ∙ behind.front
            ∙ moved.front;
        inside = behind.inside;
        room = behind.room ∙ moved.room;
        same = λ few fits. absurd (never fails few fits);
      }
