-- An item that a call brings is of the kind that the call is of.
use Rattle.std.specs.Prelude.{ℕ, ◌≡◌, Bool, not, ◌&&◌, length, eqb, ltb}
use Rattle.std.proofs.Math.Path.{refl}
use Rattle.std.proofs.Common.{subst}
use Rattle.rules.specs.Limits.{flight, store_words, reply_bytes_min}
use Rattle.rules.specs.Messages.{Station, Message, partial_list, set_current, current, request_list, count, clear_all, ack, request_int, item_int, statustext, unknown, decode}
use Rattle.rules.specs.Calls.{Call, message, timer, done, Request, chooses, asks_list, announces, changes, clears, acknowledges, asks_item, brings, Heard, refuses, request, expiry, command_done, ours_or_all, for_us, heard_message, is_known, heard}
use Rattle.rule_laws.specs.Tests.{either}

abbrev pub OfItsKind : (kind : ℕ) → Request → Type 0
OfItsKind kind (brings item) = item.kind ≡ kind
OfItsKind kind (chooses seq) = Unit {0}
OfItsKind kind asks_list = Unit {0}
OfItsKind kind (announces n) = Unit {0}
OfItsKind kind (changes start end) = Unit {0}
OfItsKind kind clears = Unit {0}
OfItsKind kind (acknowledges result) = Unit {0}
OfItsKind kind (asks_item seq) = Unit {0}

abbrev HeardKind : Heard → Type 0
HeardKind (refuses outcome) = Unit {0}
HeardKind (request from now kind r) = OfItsKind kind r
HeardKind (expiry now kind) = Unit {0}
HeardKind command_done = Unit {0}

module _ (own from : Station) (now : ℕ) where
  for_us_kind : (to : Station) (kind : ℕ) (r : Request) → OfItsKind kind r → HeardKind (for_us own to (request from now kind r))
  unfolding for_us
  for_us_kind to kind r h = either HeardKind (ours_or_all own.system to.system && ours_or_all own.component to.component) (λ t. h) (λ t. tt)

  message_kind : (msg : Message) → HeardKind (heard_message own from now msg)
  unfolding heard_message
  message_kind (set_current to seq) = for_us_kind to flight (chooses seq) tt
  message_kind (request_list to kind) = for_us_kind to kind asks_list tt
  message_kind (count to n kind plan_number) = for_us_kind to kind (announces n) tt
  message_kind (partial_list to start end kind) = for_us_kind to kind (changes start end) tt
  message_kind (clear_all to kind) = for_us_kind to kind clears tt
  message_kind (ack to result kind plan_number) = for_us_kind to kind (acknowledges result) tt
  message_kind (request_int to seq kind) = for_us_kind to kind (asks_item seq) tt
  message_kind (item_int to is_current item) = for_us_kind to item.kind (brings item) refl
  message_kind (current seq total state mode mission fence rally) = tt
  message_kind (statustext severity text id chunk) = tt
  message_kind unknown = tt

heard_kind : (ranged : Bool) (c : Call) → HeardKind (heard ranged c)
unfolding heard
heard_kind ranged (message own from id payload clock store reply) =
    either HeardKind (ltb store store_words) (λ t. tt)
    (λ t. either HeardKind (not ranged) (λ t. tt)
    (λ t. either HeardKind (ltb reply reply_bytes_min) (λ t. tt)
    (λ t. either HeardKind (eqb (length payload) 0) (λ t. tt) (λ t. message_kind own from clock (decode id payload)))))
heard_kind ranged (timer kind clock store reply) =
    either HeardKind (ltb store store_words) (λ t. tt)
    (λ t. either HeardKind (not ranged) (λ t. tt)
    (λ t. either HeardKind (ltb reply reply_bytes_min) (λ t. tt) (λ t. either HeardKind (is_known kind) (λ t. tt) (λ t. tt))))
heard_kind ranged (done store) = either HeardKind (ltb store store_words) (λ t. tt) (λ t. either HeardKind (not ranged) (λ t. tt) (λ t. tt))

pub request_kind : (ranged : Bool) (c : Call) {from : Station} {now kind : ℕ} {r : Request} → heard ranged c ≡ request from now kind r → OfItsKind kind r
request_kind ranged c e = subst HeardKind e (heard_kind ranged c)
