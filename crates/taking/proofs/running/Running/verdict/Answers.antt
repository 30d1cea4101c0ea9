-- The jumps before the item are those among the items taken, where they matter: in a whole upload, which takes items from 0 on, and where the item is a jump.
use mathlib.Core.Path.{◌≡◌, refl, ◌∙◌, sym, ap}
use mathlib.Core.List.{List}
use mathlib.Core.Bool.{Bool, true, false, not, cond, ◌&&◌, and-true, and-false}
use Prim.Native.Nat.{ℕ}
use lib.ListN.{drop}
use Rattle.rules.specs.Payload.{Bytes}
use Rattle.rules.specs.Messages.{Item}
use Rattle.rules.specs.Items.{is_jump, jumps_among, fault}
use Rattle.rules.specs.Model.{Task, verdict_on}
use Rattle.limits.specs.Kinds.{kind_number}
use Rattle.item.specs.Patterns.{patterns}
use Rattle.plan.specs.View.{task_in}
use Rattle.taking.proofs.Room.{fault_room}
use Rattle.taking.proofs.running.Running.verdict.Goals as goal

module _ (home : Bool) (kind : ℕ) (t : Task) (next : ℕ) (items : List Bytes) (i : Item) (start : t.partial ≡ false → t.first ≡ 0) where
  same_fault : fault home kind t.count next (cond (is_jump i && not t.partial) (jumps_among items) 0) i ≡ verdict_on home kind t next (drop t.first items) i
  unfolding verdict_on
  same_fault = go t.partial refl
    where
      go : (b : Bool) → t.partial ≡ b
          → fault home kind t.count next (cond (is_jump i && not b) (jumps_among items) 0) i ≡ fault home kind t.count next (cond b 0 (jumps_among (drop t.first items))) i
      go true e = simp and-false
      go false e =
          ap (λ (x : Bool). fault home kind t.count next (cond x (jumps_among items) 0) i) (and-true (is_jump i))
          ∙ fault_room kind t.count next (jumps_among items) i home
          ∙ ap (λ (n : ℕ). fault home kind t.count next (jumps_among (drop n items)) i) (sym (start e))

pub returns : goal.returns
returns c =
    let r = c.args.self.run in
    let kind = kind_number c.args.self.kind in
    c.verdict.ensures
    ∙ ap (λ (k : ℕ). fault c.args.home k r.count r.next c.jumps_before-before.result (patterns c.args.item.plain)) c.number-kind.ensures
    ∙ ap (λ (n : ℕ). fault c.args.home kind r.count r.next n (patterns c.args.item.plain)) c.jumps_before-before.ensures
    ∙ same_fault c.args.home kind (task_in r) r.next _ (patterns c.args.item.plain) c.args.self.from_start
