-- The reading ends between runs, and the points are the rules' own.
use Rattle.std.proofs.Common.{◌≡◌, Bool, false, ◌&&◌, ℕ, leb, Option, Some, None, Result, Ok, Err, rules}
use Rattle.std.specs.Option.{is_none}
use Rattle.std.specs.Result.{MatchResult}
use Rattle.rules.specs.Limits.{fence, max_return_points}
use Rattle.rules.specs.Items.{return_point}
use Rattle.rules.specs.Fence.{between, read_items, is_between, fence_ok}
use Rattle.places.specs.Forms.{Store, words, items_in}
use Rattle.places.specs.Stored.{with_command, points_are}
use Rattle.fence.specs.declared.OpenRun.{OpenRun}
use Rattle.fence.specs.declared.Broken.{Broken}
use Rattle.fence.specs.FenceReading.{reading_of}
use Rattle.fence.proofs.fence_ok.Goals as goal

whole_is : (r : Result (Option OpenRun) Broken) (whole : Bool) → MatchResult r (λ run. whole ≡ is_none run) (λ b. whole ≡ false) → whole ≡ is_between (reading_of r)
whole_is (Ok None) whole e = e
whole_is (Ok (Some r)) whole e = e
whole_is (Err b) whole e = e

judged : (store : Store) (half : Bool) (n points : ℕ) (r : Result (Option OpenRun) Broken) (whole : Bool)
    → reading_of r ≡ read_items between (items_in words store half fence n)
    → MatchResult r (λ run. whole ≡ is_none run) (λ b. whole ≡ false)
    → points ≡ with_command return_point (items_in words store half fence n)
    → (whole && leb points max_return_points) ≡ fence_ok (items_in words store half fence n)
unfolding fence_ok
judged store half n points r whole er ew ep = rw (whole_is r whole ew, er, ep, points_are (items_in words store half fence n))

pub returns : goal.returns
returns c = let a = c.args in
    judged a.store.now a.half a.n c.with_command-points.result c.read_items.result c.is_ok_and-whole.result c.read_items.ensures (search rules) c.with_command-points.ensures
