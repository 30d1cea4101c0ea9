-- The reading is the rules' own of the items passed; a broken one stays broken.
use Rattle.std.proofs.Common.{◌≡◌, refl, ◌∙◌, sym, ap, ℕ, zero, suc, ◌+◌, ◌-◌, arith, rules, add-one, add-zero, add-suc, Option, Result, Ok, Err}
use Rattle.std.specs.Result.{IsErr}
use Rattle.std.specs.Float.{Float}
use Rattle.rules.specs.Messages.{item_in}
use Rattle.rules.specs.Values.{float, whole_of, whole_number}
use Rattle.rules.specs.Fence.{Reading, between, broken, read_items}
use Rattle.places.specs.Forms.{items_in}
use Rattle.places.specs.KindItems.{item_with, first_items}
use Rattle.places.specs.declared.items.Items.{Items}
use Rattle.fence.specs.FenceReading.{open_reading, reading_of, read_as, reads_more}
use Rattle.fence.specs.declared.OpenRun.{OpenRun}
use Rattle.fence.specs.declared.Broken.{Broken}
use Rattle.fence.proofs.read_items.Goals as goal

-- a turn of the loop, with the callees' answers as variables
turned : (items : Items) (i command bits : ℕ) (x : Float) (m : ℕ) (r next : Reading)
    → r ≡ read_items between (first_items items i)
    → command ≡ (item_in (item_with items i)).command
    → bits ≡ (item_in (item_with items i)).param1
    → x ≡ float bits
    → m ≡ whole_number (whole_of x)
    → next ≡ read_as r command m
    → next ≡ read_items between (first_items items (i + 1))
unfolding items_in
turned items i command bits x m r next before ec eb ex em en =
    en ∙ rw (add-one i, reads_more between (first_items items i) (item_with items i), ← ec, ← eb, before, em, ex)

stays_broken : (items : Items) (i n : ℕ) → broken ≡ read_items between (first_items items i) → broken ≡ read_items between (first_items items (i + n))
unfolding items_in read_as
stays_broken items i zero is = rw add-zero is
stays_broken items i (suc n) is =
    rw (add-suc, reads_more between (first_items items (i + n)) (item_with items (i + n)), sym (stays_broken items i n is))

err_is : (r : Result (Option OpenRun) Broken) → IsErr r → reading_of r ≡ broken
err_is (Ok run) h = cc
err_is (Err b) h = refl

pub loop-i-init : goal.loop-i-init
unfolding read_items items_in
loop-i-init c = refl

pub returns-in_err-run : goal.returns-in_err-run
returns-in_err-run c = let a = c.args in
    let l = c.loop-i in
    let here : broken ≡ read_items between (first_items a.items (l.i + 1)) =
    turned a.items l.i _ _ _ _ (open_reading l.run) broken l.invariant c.command.ensures
    c.param1.ensures c.float_of.ensures c.number_of-vertices.ensures c.in_err-run.ensures in
    let rest : l.i + 1 + (a.n - (l.i + 1)) ≡ a.n = omega arith in
    err_is c.from_residual.result c.from_residual.ensures.0
    ∙ stays_broken a.items (l.i + 1) (a.n - (l.i + 1)) here
    ∙ ap (λ (k : ℕ). read_items between (first_items a.items k)) rest

pub loop-i-preserved : goal.loop-i-preserved
loop-i-preserved c = search (turned, rules)
