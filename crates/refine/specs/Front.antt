-- A front part of the store that is long enough shows what the whole store shows, for a state in its ranges.
use Prim.Native.Nat.{ℕ, zero, suc, ◌+◌, ◌≤◌}
use Rattle.std.proofs.Common.{arith, ◌∙◌, leb-true}
use Rattle.std.specs.Prelude.{◌≡◌, Bool, true, not, length, take, Option, Some, None}
use Rattle.std.proofs.Math.Path.{refl, ap, ap₂}
use mathlib.Core.List.{List, [], ◌∷◌, ◌++◌}
use Rattle.std.proofs.Math.ListN.{drop, length-drop}
use Rattle.std.proofs.Math.Seq.{take-append-le}
use Rattle.std.proofs.lemmas.List.{drop-append-le}
use Rattle.rules.specs.Limits.{flight, fence, rally, size_of}
use Rattle.rules.specs.Payload.{Bytes}
use Rattle.rules.specs.Model.{running, in_range}
use Rattle.rules.specs.Calls.{is_known}
use Rattle.plan.specs.declared.State.{State}
use Rattle.plan.specs.declared.Run.{Run}
use Rattle.places.specs.Part.{part}
use Rattle.places.specs.Forms.{Store, Form, least, offset_of, item_at, items_in}
use Rattle.places.specs.Places.{Lawful, offset_within}
use Rattle.plan.specs.View.{plan_of, station_in, task_in, upload_in, view_in}
use Rattle.refine.specs.Items.{len_ranged, next_below}

module _ (F : Form) (lawful : Lawful F) where
  part_front : (d e : Store) (at n : ℕ) → at + n ≤ length d → part (d ++ e) at n ≡ part d at n
  unfolding part
  part_front d e at n fits =
      ap (take n) (drop-append-le at d e (omega arith)) ∙ take-append-le n (drop at d) e (omega (arith, length-drop at d))

  items_front : (d e : Store) (half : Bool) (k n : ℕ) → least F ≤ length d → k ≤ rally → n ≤ size_of k → items_in F (d ++ e) half k n ≡ items_in F d half k n
  unfolding items_in item_at
  items_front d e half k zero long known within = refl
  items_front d e half k (suc n) long known within =
      ap₂ (λ (l : List Bytes) (b : List ℕ). l ++ (F.stored b k n ∷ [])) (items_front d e half k n long known (omega arith))
      (part_front d e (offset_of F half k n) F.width (omega (arith, offset_within F lawful half k n known (omega arith))))

  module _ (st : State) (lent rest : Store) (long : least F ≤ length lent) (ranged : in_range (view_in F st lent) ≡ true) where
    plan_front : (k : ℕ) → is_known k ≡ true → items_in F (lent ++ rest) (plan_of st k).half k (plan_of st k).len ≡ items_in F lent (plan_of st k).half k (plan_of st k).len
    plan_front k known = items_front lent rest (plan_of st k).half k (plan_of st k).len long (leb-true k rally known) (len_ranged F lawful st lent ranged k known)

    upload_front : (k : ℕ) → is_known k ≡ true → (u : Option Run) → (plan_of st k).upload ≡ u → upload_in F (lent ++ rest) (not (plan_of st k).half) k u ≡ upload_in F lent (not (plan_of st k).half) k u
    unfolding upload_in
    upload_front k known None e = refl
    upload_front k known (Some r) e =
        ap (λ (l : List Bytes). running (record { station = station_in r; task = task_in r; next = r.next; taken = drop r.first l; started = r.started; repeats = r.repeats }))
        (items_front lent rest (not (plan_of st k).half) k r.next long (leb-true k rally known) (let below = next_below F lawful st lent ranged k known r e in omega arith))

    pub view_front : view_in F st (lent ++ rest) ≡ view_in F st lent
    unfolding view_in
    view_front =
        rw (
          plan_front flight refl,
          plan_front fence refl,
          plan_front rally refl,
          upload_front flight refl (plan_of st flight).upload refl,
          upload_front fence refl (plan_of st fence).upload refl,
          upload_front rally refl (plan_of st rally).upload refl,
        )
