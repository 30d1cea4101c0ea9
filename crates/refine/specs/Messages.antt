-- Every message commutes with the view.
use Prim.Native.Nat.{ℕ, ◌≤◌, ◌<◌}
use Rattle.std.proofs.Common.{arith, sym, ap₂, ◌∙◌, length-set}
use Rattle.std.specs.Prelude.{◌≡◌, Bool, true, not, cond, ◌||◌, get_or, eqb, ltb}
use Rattle.std.proofs.Math.Path.{refl, ap}
use mathlib.Core.List.{List, [], ◌∷◌}
use Rattle.std.proofs.Math.Bool.{false}
use Rattle.std.proofs.Math.ListN.{length, get_or-eq_default}
use borrow.Author.Tests.{ltb-true, leb-false}
use Rattle.rules.specs.Limits.{flight, fence, rally, kinds, every_kind}
use Rattle.rules.specs.Payload.{Bytes}
use Rattle.rules.specs.Messages.{Station, current, count, item_int, item_in}
use Rattle.rules.specs.Model as model
use Rattle.rules.specs.Model.{Model, idle, every, is_others, is_own, shown_number, flown, choose, in_range}
use Rattle.rules.specs.Calls.{Request, chooses, asks_list, announces, changes, clears, acknowledges, asks_item, brings, is_known}
use Rattle.rules.specs.Step.{Stepped, Answer, says, silent, current_field, refusal_text, idle_at, covered, any_others, on_clear, on_list, on_request, on_set_current, on_known, kind_ok, on_message, on_ack}
use Rattle.rule_laws.specs.Tests.{both, either₂}
use Rattle.rule_laws.specs.Kinds.{covered_known}
use Rattle.rule_laws.specs.Brought.{OfItsKind}
use Rattle.plan.specs.declared.State.{State}
use Rattle.places.specs.Forms.{Store, Form, least, item_at, items_at}
use Rattle.places.specs.Places.{Lawful}
use Rattle.plan.specs.View.{empty_plan, plan_of, view_in}
use Rattle.upload.specs.declared.Say.TheVariants.{Silent}
use Rattle.upload.specs.declared.Effect.TheVariants.{Nothing, Renews, EmptiesAll, Chooses}
use Rattle.upload.specs.Turns.{emptied, others_upload, ack_turned, own_upload, keeps}
use Rattle.upload.specs.Effects.{renewed_state, emptied_state, chosen_state, applied}
use Rattle.record_steps.specs.Shown.{list_answer, request_answer, choose_effect, choose_answer}
use Rattle.record_steps.specs.Doing.{Done, does, others_among, clear_effect, clear_done, plan_done, known_done, message_done}
use Rattle.refine.specs.After.{after, after_turn, after_message}
use Rattle.refine.specs.Views.{plan_shown, upload_shown, length_shown}
use Rattle.refine.specs.Turned.{Agree, others_shown, empties, count_agrees, part_agrees, ack_agrees}
use Rattle.refine.specs.Items.{item_agrees}

module _ (F : Form) (lawful : Lawful F) where
  -- ---- clears

  others_agree : (st : State) (s : Store) (from : Station) (ks : List ℕ) → every is_known ks ≡ true → any_others (view_in F st s) from ks ≡ others_among st.plans from ks
  others_agree st s from [] known = refl
  others_agree st s from (k ∷ ks) known =
      let parts = both (is_known k) (every is_known ks) known in
      let p = plan_of st k in
      ap (λ (u : model.Upload). is_others from u || any_others (view_in F st s) from ks) (upload_shown F st s k parts.0)
      ∙ ap (λ (b : Bool). b || any_others (view_in F st s) from ks) (others_shown F from s (not p.half) k p.upload)
      ∙ ap (λ (b : Bool). others_upload from p.upload || b) (others_agree st s from ks parts.1)

  cleared_view :
      (st : State) (s : Store) → length st.plans ≡ length kinds → (ks : List ℕ) → every is_known ks ≡ true
      → view_in F (emptied_state st ks) s ≡ record { shown = model.empty ks (view_in F st s).shown; uploads = idle_at ks (view_in F st s).uploads }
  unfolding model.empty renewed_state
  cleared_view st s three [] known = refl
  cleared_view st s three (k ∷ ks) known =
      let parts = both (is_known k) (every is_known ks) known in
      let p = emptied (plan_of st k) in
      cleared_view (renewed_state false st k p) s (length-set st.plans k p ∙ three) ks parts.1
      ∙ ap (λ (m : Model). record { shown = model.empty ks m.shown; uploads = idle_at ks m.uploads })
      (empties F st s three k parts.0 (record { system = 0; component = 0 }) Silent silent refl).model

  -- the effect of a clear empties what it covers
  pub clears_covered : (st : State) (k : ℕ) → applied st k (clear_effect st.plans k) ≡ emptied_state st (covered k)
  clears_covered st k = go (eqb k every_kind)
    where
      go : (t : Bool) → applied st k (cond t EmptiesAll (Renews (emptied (plan_of st k)))) ≡ emptied_state st (cond t kinds (k ∷ []))
      go true = refl
      go false = refl

  module _ (st : State) (s : Store) (three : length st.plans ≡ length kinds) where
    -- what is done agrees, put into the state
    abbrev AgreeIn : (k : ℕ) → Done → Stepped → Type 0
    AgreeIn k d m = Agree F (after st k d) m

    clear_agrees : (from : Station) (k : ℕ) → kind_ok k clears ≡ true → AgreeIn k (clear_done st.plans s from k) (on_clear (view_in F st s) from k)
    unfolding clear_done on_clear
    clear_agrees from k ok =
        rw (others_agree st s from (covered k) (covered_known k ok))
        (either₂ (AgreeIn k) (others_among st.plans from (covered k)) (λ t. record { model = refl; answer = refl })
        (λ t. record { model = ap (λ (x : State). view_in F x s) (clears_covered st k) ∙ cleared_view st s three (covered k) (covered_known k ok); answer = refl }))

    -- ---- reading and choosing

    number_shown :
        (k : ℕ) → is_known k ≡ true
        → shown_number (model.length_of (view_in F st s).shown k) (model.plan_of (view_in F st s).shown k).number ≡ shown_number (plan_of st k).len (plan_of st k).number
    number_shown k known = ap₂ shown_number (length_shown F st s k known) (ap (λ (p : model.Plan). p.number) (plan_shown F st s k known))

    list_agrees : (from : Station) (k : ℕ) → is_known k ≡ true → AgreeIn k (does Nothing s (list_answer (plan_of st k) from k)) (on_list (view_in F st s) from k)
    unfolding list_answer on_list
    list_agrees from k known =
        record {
          model = refl;
          answer =
              ap (λ (n : ℕ). says (count from n k (shown_number (plan_of st k).len (plan_of st k).number))) (sym (length_shown F st s k known))
              ∙ ap (λ (n : ℕ). says (count from (model.length_of (view_in F st s).shown k) k n)) (sym (number_shown k known));
        }

    item_shown : (k seq : ℕ) → is_known k ≡ true → seq < (plan_of st k).len → get_or (model.plan_of (view_in F st s).shown k).items seq [] ≡ item_at F s (plan_of st k).half k seq
    item_shown k seq known below =
        ap (λ (p : model.Plan). get_or p.items seq []) (plan_shown F st s k known) ∙ items_at F s (plan_of st k).half k (plan_of st k).len seq below

    request_agrees :
        (from : Station) (k seq : ℕ) → is_known k ≡ true
        → AgreeIn k (does Nothing s (request_answer F (plan_of st k) st.current s from k seq)) (on_request (view_in F st s) from k seq)
    unfolding request_answer on_request view_in
    request_agrees from k seq known =
        rw (length_shown F st s k known)
        (either₂ (λ (a : Answer). AgreeIn k (does Nothing s a)) (ltb seq (plan_of st k).len)
        (λ below. record {
          model = refl;
          answer =
              ap (λ (b : Bytes). says (item_int from (current_field k seq st.current) (item_in b))) (sym (item_shown k seq known (ltb-true seq (plan_of st k).len below)));
        })
        (λ t. record { model = refl; answer = refl }))

    chosen_view : (seq : ℕ) → view_in F (chosen_state st seq) s ≡ record { shown = choose seq (view_in F st s).shown; uploads = (view_in F st s).uploads }
    unfolding view_in choose
    chosen_view seq = refl

    choose_agrees :
        (k seq : ℕ)
        → AgreeIn k (does (choose_effect (plan_of st flight) (flown st.home seq)) s (choose_answer (plan_of st flight) (plan_of st fence) (plan_of st rally) (flown st.home seq)))
        (on_set_current (view_in F st s) seq)
    unfolding choose_effect choose_answer on_set_current view_in
    choose_agrees k seq =
        rw (number_shown flight refl, number_shown fence refl, number_shown rally refl, length_shown F st s flight refl) (go (ltb n (plan_of st flight).len))
      where
        n : ℕ
        n = flown st.home seq

        numbers : ℕ → ℕ
        numbers kind = shown_number (plan_of st kind).len (plan_of st kind).number

        go : (t : Bool)
            → AgreeIn k (does (cond t (Chooses n) Nothing) s (cond t (says (current n (plan_of st flight).len 0 0 (numbers flight) (numbers fence) (numbers rally))) (says refusal_text)))
            (cond t (record { model = record { shown = choose n (view_in F st s).shown; uploads = (view_in F st s).uploads }; answer = says (current n (plan_of st flight).len 0 0 (numbers flight) (numbers fence) (numbers rally)) })
            (record { model = view_in F st s; answer = says refusal_text }))
        go true = record { model = chosen_view n; answer = refl }
        go false = record { model = refl; answer = refl }

    -- ---- an ACK of any kind

    -- an unknown kind has no plan and no upload
    no_plan_lem : (k : ℕ) → is_known k ≡ false → plan_of st k ≡ empty_plan
    no_plan_lem k e = get_or-eq_default st.plans empty_plan (let more : rally < k = leb-false k rally e in omega (arith, three))

    no_upload : (k : ℕ) → is_known k ≡ false → model.upload_of (view_in F st s) k ≡ idle
    unfolding view_in
    no_upload k e = let past : length (view_in F st s).uploads ≤ k = leb-false k rally e in get_or-eq_default (view_in F st s).uploads idle past

    -- an ACK of an unknown kind does nothing
    pub unknown_turn : (from : Station) (k result : ℕ) → is_known k ≡ false → ack_turned (plan_of st k) from result ≡ keeps Silent
    unfolding ack_turned own_upload
    unknown_turn from k result e = rw (no_plan_lem k e)

    unknown_ack : (from : Station) (k result : ℕ) → is_known k ≡ false → Agree F (after_turn st s k from (ack_turned (plan_of st k) from result)) (on_ack (view_in F st s) from k result)
    unfolding on_ack is_own
    unknown_ack from k result e = rw (no_upload k e, unknown_turn from k result e) (record { model = refl; answer = refl })

    any_ack_agrees : (from : Station) (k result : ℕ) → Agree F (after_turn st s k from (ack_turned (plan_of st k) from result)) (on_ack (view_in F st s) from k result)
    any_ack_agrees from k result = go (is_known k) refl
      where
        go : (t : Bool) → is_known k ≡ t → Agree F (after_turn st s k from (ack_turned (plan_of st k) from result)) (on_ack (view_in F st s) from k result)
        go true e = ack_agrees F st s three k e from result
        go false e = unknown_ack from k result e

    -- ---- every message

    module _ (long : least F ≤ length s) (ranged : in_range (view_in F st s) ≡ true) (from : Station) (now k : ℕ) where
      known_agrees : (r : Request) → kind_ok k r ≡ true → OfItsKind k r → AgreeIn k (known_done F st.home st.plans st.current s from now k r) (on_known (view_in F st s) from now k r)
      unfolding known_done plan_done on_known kind_ok
      known_agrees (chooses seq) ok of_kind = choose_agrees k seq
      known_agrees asks_list ok of_kind = list_agrees from k ok
      known_agrees (announces n) ok of_kind = count_agrees F st s three k ok from now n
      known_agrees (changes start end) ok of_kind = part_agrees F st s three k ok from now start end
      known_agrees clears ok of_kind = clear_agrees from k ok
      known_agrees (acknowledges result) ok of_kind = any_ack_agrees from k result
      known_agrees (asks_item seq) ok of_kind = request_agrees from k seq ok
      known_agrees (brings item) ok of_kind = item_agrees F lawful st s three long ranged k ok from now item of_kind

      pub message_agrees : (r : Request) → OfItsKind k r → Agree F (after_message F st s from now k r) (on_message (view_in F st s) from now k r)
      unfolding message_done on_message
      message_agrees r of_kind = either₂ (AgreeIn k) (kind_ok k r) (λ ok. known_agrees r ok of_kind) (λ t. record { model = refl; answer = refl })
