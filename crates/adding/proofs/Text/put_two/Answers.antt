-- `adding::Text::put_two` meets its contract: where there is room, both bytes stand behind the text.
use lib.ListN.{set}
use Rattle.std.specs.Prelude.{ℕ, suc, ◌+◌, ◌≤◌, ◌≡◌, List, [], ◌∷◌, ◌++◌, take, length, get_or}
use Rattle.std.proofs.Common.{arith, rules, ap, refl, sym, ◌∙◌, append_assoc, length-set, take_all, take-suc-set}
use Rattle.std.proofs.lemmas.Grind.{common_steps}
use Rattle.adding.proofs.Text.put_two.Goals as goal

pub returns-then-room-lt2 : goal.returns-then-room-lt2
returns-then-room-lt2 c = c.put.ensures

-- two bytes are the first of their list as far as there is room
both : (l : List ℕ) (n : ℕ) → length l ≡ 2 → 2 ≤ n → get_or l 0 0 ∷ get_or l 1 0 ∷ [] ≡ take n l
both [] n two room = absurd (omega arith)
both (x ∷ []) n two room = absurd (omega arith)
both (x ∷ y ∷ []) n two room = sym (take_all n (x ∷ y ∷ []) (omega arith))
both (x ∷ y ∷ z ∷ l) n two room = absurd (omega arith)

pub returns : goal.returns
returns c = let t = c.args.self.now in
    let bs = t.bytes.now in
    let a = get_or c.args.two 0 0 in
    let b = get_or c.args.two 1 0 in
    let long : length c.args.two ≡ 2 = search rules in
    let end : t.len + 2 ≡ suc (suc t.len) = omega arith in
    let next : t.len + 1 ≡ suc t.len = omega arith in
    record {
      same = refl;
      more_stands = record {
        text =
            rw (end, next)
            (take-suc-set (set bs t.len a) (suc t.len) b (omega (arith, length-set bs t.len a))
            ∙ ap (λ (l : List ℕ). l ++ (b ∷ [])) (take-suc-set bs t.len a (omega arith))
            ∙ append_assoc (take t.len bs) (a ∷ []) (b ∷ [])
            ∙ ap (λ (l : List ℕ). take t.len bs ++ l) (both c.args.two _ long (omega arith)));
        left = grind (arith, common_steps);
      };
    }
