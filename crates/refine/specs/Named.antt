-- What the rules answer to an item or to what would be put in, where it is not 0, is the result of a fault: `fault_named` loses nothing of it.
use Rattle.std.specs.Prelude.{ℕ, ◌≡◌, List, [], ◌∷◌, Bool, true, false, not, cond, ◌&&◌, eqb, leb, ltb}
use Rattle.std.proofs.Common.{ap, true≢false}
use Rattle.rules.specs.Limits.{flight, fence, max_jumps, x_limit, y_limit, accepted}
use Rattle.rules.specs.Payload.{Bytes}
use Rattle.rules.specs.Messages.{Item}
use Rattle.rules.specs.Values.{signed, within, float, finite}
use Rattle.rules.specs.Items.{Row, commands, param_ok, frame_ok, is_jump, place_fault, room_fault, fault_in, fault_among, not_home, fault, jumps_among}
use Rattle.rules.specs.Fence.{fence_ok}
use Rattle.rules.specs.Model.{Task, verdict_on, whole_fault}
use Rattle.rule_laws.specs.Tests.{either}
use Rattle.limits.specs.declared.Fault.{Fault}
use Rattle.limits.specs.declared.Fault.TheVariants.{UnsupportedFrame, Unsupported, NoSpace, Invalid, InvalidParam1, InvalidParam2, InvalidX, InvalidY, InvalidZ}
use Rattle.limits.specs.Codes.{fault_code}
use Rattle.upload.specs.Faults.{fault_named, named_code}

pub record Named (n : ℕ) : Type 0 where
  pub named : eqb n accepted ≡ false → fault_code (fault_named n) ≡ n

of_fault : (f : Fault) → Named (fault_code f)
of_fault f = record { named = λ e. ap fault_code (named_code f) }

of_none : Named accepted
of_none = record { named = λ e. absurd (true≢false e) }

place_named : (positional : Bool) (item : Item) (rest : ℕ) → Named rest → Named (place_fault positional item rest)
unfolding place_fault
place_named false item rest h = h
place_named true item rest h =
    either Named (not (within x_limit (signed item.x))) (λ t. of_fault InvalidX)
    (λ t. either Named (not (within y_limit (signed item.y))) (λ t. of_fault InvalidY)
    (λ t. either Named (not (finite (float item.z))) (λ t. of_fault InvalidZ) (λ t. h)))

in_named : (r : Row) (n own jumps : ℕ) (item : Item) → Named (fault_in r n own jumps item)
unfolding fault_in
in_named r n own jumps item =
    either Named (not (frame_ok r.positional item.frame)) (λ t. of_fault UnsupportedFrame)
    (λ t. either Named (not (param_ok r.param1 n own (float item.param1))) (λ t. of_fault InvalidParam1)
    (λ t. either Named (not (param_ok r.param2 n own (float item.param2))) (λ t. of_fault InvalidParam2)
    (λ t. place_named r.positional item (room_fault jumps item)
    (either Named (is_jump item && leb max_jumps jumps) (λ t. of_fault NoSpace) (λ t. of_none)))))

among_named : (rs : List Row) (kind n own jumps : ℕ) (item : Item) → Named (fault_among rs kind n own jumps item)
unfolding fault_among
among_named [] kind n own jumps item = of_fault Unsupported
among_named (r ∷ rs) kind n own jumps item =
    let later = among_named rs kind n own jumps item in
    either Named (eqb r.command item.command)
    (λ t. either Named (eqb r.kind kind) (λ t. in_named r n own jumps item) (λ t. of_fault Unsupported))
    (λ t. later)

pub verdict_named : (home : Bool) (kind : ℕ) (t : Task) (own : ℕ) (got : List Bytes) (item : Item) → Named (verdict_on home kind t own got item)
unfolding verdict_on fault
verdict_named home kind t own got item =
    let jumps = cond t.partial 0 (jumps_among got) in
    either Named (not_home home kind own item) (λ t. of_fault Unsupported) (λ e. among_named (commands home) kind t.count own jumps item)

pub whole_named : (kind : ℕ) (t : Task) (items : List Bytes) → Named (whole_fault kind t items)
unfolding whole_fault
whole_named kind t items =
    either Named (t.partial && eqb kind flight && ltb max_jumps (jumps_among items)) (λ t. of_fault NoSpace)
    (λ t. either Named (eqb kind fence && not (fence_ok items)) (λ t. of_fault Invalid) (λ t. of_none))
