-- Reading back: what is written reads back as what was meant, and so does every reply of the step.
use Rattle.std.specs.Prelude.{ℕ, suc, ◌+◌, ◌≡◌, refl, List, [], ◌∷◌, ◌++◌, length, get_or}
use Rattle.std.proofs.Common.{arith, sym, ap, ap₂, ◌∙◌, append_assoc, length-append, take_at}
use Rattle.std.proofs.lemmas.List.{get_or_at}
use Rattle.rules.specs.Payload.{Bytes, trim}
use Rattle.rules.specs.Layouts.{Field, layout_of, values, pack, text_chars, item_int_id, statustext_id}
use Rattle.rules.specs.Messages.{station, Item, Message, partial_list, set_current, current, request_list, count, clear_all, ack, request_int, item_int, statustext, unknown, id_of, values_of, item_from, message_of, encode, decode, item_of, item_in}
use Rattle.rule_laws.specs.Numbers.{number_at_agree}
use Rattle.rule_laws.specs.Trim.{get_d_trim}
use Rattle.rule_laws.specs.Layout.{FitFields, layouts_follow, values_pack}
use Rattle.rule_laws.specs.Fitting.{Fits, AnswerFits, ModelFits, CallFits}
use Rattle.rules.specs.Model.{Model}
use Rattle.rules.specs.Calls.{Call}
use Rattle.rules.specs.Step.{Answer, refused, silent, says, orders, reply_id, reply_bytes, ReadsBack, step}
use Rattle.rule_laws.specs.Replies.{replies_fit}

values_agree : (fs : List Field) (p q : Bytes) → ((i : ℕ) → get_or p i 0 ≡ get_or q i 0) → values fs p ≡ values fs q
unfolding values
values_agree [] p q same = refl
values_agree (f ∷ fs) p q same = ap₂ {C = List ℕ} (λ (n : ℕ) (l : List ℕ). n ∷ l) (number_at_agree f.size f.at p q same) (values_agree fs p q same)

fit_length : (fs : List Field) (vs : List ℕ) → FitFields fs vs → length vs ≡ length fs
fit_length [] [] h = refl
fit_length [] (v ∷ vs) h = absurd h
fit_length (f ∷ fs) [] h = absurd h
fit_length (f ∷ fs) (v ∷ vs) h = ap suc (fit_length fs vs h.1)

-- a message is the message of its id with its values
same_message : (m : Message) → Fits m → message_of (id_of m) (values_of m) ≡ m
unfolding message_of layout_of
same_message (partial_list to start end kind) h = refl
same_message (set_current to seq) h = refl
same_message (current seq total state mode mission fence rally) h = refl
same_message (request_list to kind) h = refl
same_message (count to n kind plan_number) h = refl
same_message (clear_all to kind) h = refl
same_message (ack to result kind plan_number) h = refl
same_message (request_int to seq kind) h = refl
same_message (item_int to is_current item) h = refl
same_message (statustext severity text id chunk) h =
    let tail = id ∷ chunk ∷ [] in
    let len : length text ≡ text_chars =
    omega (arith, length-append text tail, fit_length (layout_of statustext_id).fields (severity ∷ text ++ tail) h) in
    let longer : length (text ++ (id ∷ [])) ≡ suc text_chars = omega (arith, length-append text (id ∷ [])) in
    let last : get_or (text ++ tail) (suc text_chars) 0 ≡ chunk =
    ap (λ (l : List ℕ). get_or l (suc text_chars) 0) (sym (append_assoc text (id ∷ []) (chunk ∷ []))) ∙ get_or_at (text ++ (id ∷ [])) chunk [] 0 (suc text_chars) longer in
    λ i. statustext severity (take_at text tail text_chars len i) (get_or_at text id (chunk ∷ []) 0 text_chars len i) (last i)
same_message unknown h = refl

-- What is written reads back as what was meant: for every message whose fields fit, the trimmed payload of its id is the message.
pub reads_back : (m : Message) → Fits m → decode (id_of m) (trim (encode m)) ≡ m
unfolding decode encode
reads_back m h =
    let fs = (layout_of (id_of m)).fields in
    ap (λ (l : List ℕ). message_of (id_of m) l)
    (values_agree fs (trim (pack fs (values_of m))) (pack fs (values_of m)) (get_d_trim (pack fs (values_of m)))
    ∙ values_pack (layout_of (id_of m)).full fs (values_of m) [] (layouts_follow (id_of m)) h)
    ∙ same_message m h

-- a stored item reads back as the item that was stored, "kept bit for bit, NaN included"
pub item_reads_back : (item : Item) → Fits (item_int (station 0 0) 0 item) → item_in (item_of item) ≡ item
unfolding item_of item_in encode
item_reads_back item h =
    ap item_from
    (values_pack (layout_of item_int_id).full (layout_of item_int_id).fields (values_of (item_int (station 0 0) 0 item)) [] (layouts_follow item_int_id) h)

-- Every reply of the step has fields that fit, where the model and the call fit (`replies_fit`), and so reads back as what was meant.
answer_reads : (a : Answer) → AnswerFits a → ReadsBack a (reply_id a) (reply_bytes a)
answer_reads (refused outcome) h = tt
answer_reads silent h = tt
answer_reads (says reply) h = reads_back reply h
answer_reads (orders c) h = tt

pub replies_read : (m : Model) (c : Call) → ModelFits m → CallFits c → ReadsBack (step m c).answer (reply_id (step m c).answer) (reply_bytes (step m c).answer)
replies_read m c fits call = answer_reads (step m c).answer (replies_fit m c fits call)
