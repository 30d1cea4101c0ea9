-- `dump::plans::stored_item` meets its contract: the eight words are those of the item, and its bytes are the item's.
use Rattle.std.proofs.Common.{rules, ◌≡◌, get_or}
use Rattle.dump.proofs.PlanWays.{item_read}
use Rattle.dump.proofs.plans.stored_item.Goals as goal

pub returns : goal.returns
returns c =
    let (q0, y0, at0, call0, r0) = c.from_fn-stored.ensures.items.each in
    let e0 : get_or c.from_fn-stored.result 0 0 ≡ get_or c.args.words.now 0 0 = search rules in
    let (q1, y1, at1, call1, r1) = r0 in
    let e1 : get_or c.from_fn-stored.result 1 0 ≡ get_or c.args.words.now 1 0 = search rules in
    let (q2, y2, at2, call2, r2) = r1 in
    let e2 : get_or c.from_fn-stored.result 2 0 ≡ get_or c.args.words.now 2 0 = search rules in
    let (q3, y3, at3, call3, r3) = r2 in
    let e3 : get_or c.from_fn-stored.result 3 0 ≡ get_or c.args.words.now 3 0 = search rules in
    let (q4, y4, at4, call4, r4) = r3 in
    let e4 : get_or c.from_fn-stored.result 4 0 ≡ get_or c.args.words.now 4 0 = search rules in
    let (q5, y5, at5, call5, r5) = r4 in
    let e5 : get_or c.from_fn-stored.result 5 0 ≡ get_or c.args.words.now 5 0 = search rules in
    let (q6, y6, at6, call6, r6) = r5 in
    let e6 : get_or c.from_fn-stored.result 6 0 ≡ get_or c.args.words.now 6 0 = search rules in
    let (q7, y7, at7, call7, r7) = r6 in
    let e7 : get_or c.from_fn-stored.result 7 0 ≡ get_or c.args.words.now 7 0 = search rules in
    item_read c.from_fn-stored.result c.args.words.now _ _ _ _ e0 e1 e2 e3 e4 e5 e6 e7 c.from_words-item.ensures c.item_bytes.ensures
