-- The messages that are written have fields that fit, where their numbers do.
use Rattle.std.specs.Prelude.{ℕ, ◌^◌, ◌<◌, ◌≡◌, refl, List, [], ◌∷◌, Bool, true, false, cond, ◌&&◌, set, ltb}
use Rattle.std.proofs.Common.{subst, ltb-true}
use Rattle.rules.specs.Limits.{byte_values, clock_values}
use Rattle.rules.specs.Payload.{Bytes}
use Rattle.rules.specs.Layouts.{Field, layout_of, values, item_int_id, statustext_id}
use Rattle.rules.specs.Messages.{Station, current, count, ack, request_int, item_int, values_of, item_in}
use Rattle.rules.specs.Step.{refusal_text}
use Rattle.rule_laws.specs.Tests.{both}
use Rattle.rule_laws.specs.Layout.{FitFields, fit_set, values_fit}
use Rattle.rule_laws.specs.Fitting.{Fits, AllBytes, StationFits}

pub ack_fits : (to : Station) (r k n : ℕ) → StationFits to → r < byte_values → k < byte_values → n < clock_values → Fits (ack to r k n)
unfolding layout_of
ack_fits to r k n s hr hk hn = (s.system, (s.component, (hr, (hk, (hn, tt)))))

pub request_fits : (to : Station) (n k : ℕ) → StationFits to → n < byte_values ^ 2 → k < byte_values → Fits (request_int to n k)
unfolding layout_of
request_fits to n k s hn hk = (hn, (s.system, (s.component, (hk, tt))))

pub count_fits : (to : Station) (n k p : ℕ) → StationFits to → n < byte_values ^ 2 → k < byte_values → p < clock_values → Fits (count to n k p)
unfolding layout_of
count_fits to n k p s hn hk hp = (hn, (s.system, (s.component, (hk, (hp, tt)))))

pub current_fits :
    (n total state mode a b c : ℕ) → n < byte_values ^ 2 → total < byte_values ^ 2 → state < byte_values → mode < byte_values → a < clock_values → b < clock_values
    → c < clock_values → Fits (current n total state mode a b c)
unfolding layout_of
current_fits n total state mode a b c hn ht hs hm ha hb hc = (hn, (ht, (hs, (hm, (ha, (hb, (hc, tt)))))))

-- an item that was read from bytes, with an address and a current field in the places of its own
pub item_fits : (to : Station) (c : ℕ) (b : Bytes) → StationFits to → c < byte_values → AllBytes b → Fits (item_int to c (item_in b))
unfolding layout_of item_in values
item_fits to c b s hc small =
    let fs = (layout_of item_int_id).fields in
    let read = values fs b in
    let to_system = set read 9 to.system in
    let to_station = set to_system 10 to.component in
    fit_set fs to_station 12 c (fit_set fs to_system 10 to.component (fit_set fs read 9 to.system (values_fit fs b small) s.system) s.component) hc

-- a test for closed values
fitb : List Field → List ℕ → Bool
fitb [] [] = true
fitb [] (v ∷ vs) = false
fitb (f ∷ fs) [] = false
fitb (f ∷ fs) (v ∷ vs) = ltb v (byte_values ^ f.size) && fitb fs vs

fitb_fits : (fs : List Field) (vs : List ℕ) → fitb fs vs ≡ true → FitFields fs vs
unfolding fitb
fitb_fits [] [] e = tt
fitb_fits [] (v ∷ vs) e = absurd (subst (λ (b : Bool). cond b ⊥ (Unit {0})) e tt)
fitb_fits (f ∷ fs) [] e = absurd (subst (λ (b : Bool). cond b ⊥ (Unit {0})) e tt)
fitb_fits (f ∷ fs) (v ∷ vs) e =
    let parts = both (ltb v (byte_values ^ f.size)) (fitb fs vs) e in
    (ltb-true v (byte_values ^ f.size) parts.0, fitb_fits fs vs parts.1)

pub text_fits : Fits refusal_text
unfolding layout_of fitb
text_fits = fitb_fits (layout_of statustext_id).fields (values_of refusal_text) refl
