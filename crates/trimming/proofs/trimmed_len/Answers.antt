-- `trimming::trimmed_len` meets its contract: what its two searches found tells how many bytes are significant.
use Rattle.std.proofs.Common.{◌≡◌, ◌∙◌, ap, refl, List, ℕ, ◌+◌, ◌-◌, ◌*◌, ◌/◌, ◌<◌, ◌≤◌, length, take, drop, drop-drop, take_all, length-drop, arith}
use Rattle.std.specs.Simd.{first_chunks}
use Rattle.rules.specs.Payload.{Bytes}
use Rattle.trimming.proofs.Laws.{trimmed_none, trimmed_rest, trimmed_eight, trimmed_first}
use Rattle.trimming.proofs.trimmed_len.Goals as goal

-- the bytes behind the first one, as a part
sliced : (bs : Bytes) → take (length bs - 1) (drop 1 bs) ≡ drop 1 bs
sliced bs = take_all (length bs - 1) (drop 1 bs) (omega (arith, length-drop 1 bs))

abbrev eights_of : Bytes → ℕ
eights_of bs = length (take (length bs - 1) (drop 1 bs)) / 8

inside : (bs : Bytes) → 0 < length bs → 1 + eights_of bs * 8 ≤ length bs
inside bs some = omega (arith, ap length (sliced bs), length-drop 1 bs)

fore : (bs : Bytes) (eights : List Bytes) → eights ≡ first_chunks 8 (eights_of bs) (take (length bs - 1) (drop 1 bs)) → eights ≡ first_chunks 8 (eights_of bs) (drop 1 bs)
fore bs eights is = is ∙ ap (first_chunks 8 (eights_of bs)) (sliced bs)

behind : (bs rest : Bytes) → rest ≡ drop (eights_of bs * 8) (take (length bs - 1) (drop 1 bs)) → rest ≡ drop (1 + eights_of bs * 8) bs
behind bs rest is = is ∙ ap (drop (eights_of bs * 8)) (sliced bs) ∙ drop-drop (eights_of bs * 8) 1 bs

pub returns-then-n-eq0 : goal.returns-then-n-eq0
returns-then-n-eq0 c = omega (arith, trimmed_none c.args.bytes.now (λ k below. omega arith))

pub returns-in-Some : goal.returns-in-Some
returns-in-Some c = let bs = c.args.bytes.now in
    let e = c.as_chunks.ensures in
    let f = c.in-Some.ensures in
    trimmed_rest bs 1 (eights_of bs) _ (fore bs _ e.front) e.front_len (inside bs (omega arith)) _ (behind bs _ e.back) c.in-Some.last f.0 f.1 f.2

pub returns-in-Some-last_eight : goal.returns-in-Some-last_eight
returns-in-Some-last_eight c = let bs = c.args.bytes.now in
    let e = c.as_chunks.ensures in
    let f = c.in-Some-last_eight.ensures in
    trimmed_eight bs 1 (eights_of bs) _ (fore bs _ e.front) e.front_len (inside bs (omega arith)) _ (behind bs _ e.back) c.in_default.ensures
    c.in-Some-last_eight.last c.zeros_ending.result f.0 f.1 f.2 c.zeros_ending.ensures

pub returns-in-None : goal.returns-in-None
returns-in-None c = let bs = c.args.bytes.now in
    let e = c.as_chunks.ensures in
    trimmed_first bs 1 (eights_of bs) _ (fore bs _ e.front) e.front_len (inside bs (omega arith)) _ (behind bs _ e.back) c.in_default.ensures refl c.in-None.ensures
