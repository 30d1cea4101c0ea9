-- What is heard of a call that fits has numbers that fit.
use Rattle.std.specs.Prelude.{ℕ, ◌<◌, ◌≡◌, Bool, true, not, ◌&&◌, length, eqb, ltb}
use native.Mathlib.Omega.{arith}
use Rattle.rules.specs.Limits.{flight, store_words, reply_bytes_min, byte_values, clock_values}
use Rattle.rules.specs.Payload.{Bytes, number_at}
use Rattle.rules.specs.Layouts.{layout_of, values}
use Rattle.rules.specs.Messages.{Station, station, Message, item_int, message_of, decode, item_in}
use Rattle.rules.specs.Calls.{Call, message, timer, done, Request, chooses, asks_list, announces, changes, clears, acknowledges, asks_item, brings, Heard, refuses, request, expiry, command_done, ours_or_all, for_us, heard_message, is_known, heard}
use Rattle.rule_laws.specs.Tests.{either}
use Rattle.rule_laws.specs.Decode.{decode_cases}
use Rattle.rule_laws.specs.Numbers.{number_at_fits}
use Rattle.rule_laws.specs.Written.{item_fits}
use Rattle.rule_laws.specs.Fitting.{Fits, AllBytes, StationFits, CallFits}

-- the item that a request brings, where it brings one
abbrev RequestFits : Request → Type 0
RequestFits (brings item) = Fits (item_int (station 0 0) 0 item)
RequestFits (chooses seq) = Unit {0}
RequestFits asks_list = Unit {0}
RequestFits (announces n) = Unit {0}
RequestFits (changes start end) = Unit {0}
RequestFits clears = Unit {0}
RequestFits (acknowledges result) = Unit {0}
RequestFits (asks_item seq) = Unit {0}

abbrev pub HeardFits : Heard → Type 0
HeardFits (refuses outcome) = Unit {0}
HeardFits (request from now kind r) = StationFits from × (kind < byte_values) × (now < clock_values) × RequestFits r
HeardFits (expiry now kind) = (is_known kind ≡ true) × (now < clock_values)
HeardFits command_done = Unit {0}

module _ (own from : Station) (now : ℕ) (sender : StationFits from) (time : now < clock_values) where
  for_us_lem : (to : Station) (kind : ℕ) (r : Request) → kind < byte_values → RequestFits r → HeardFits (for_us own to (request from now kind r))
  unfolding for_us
  for_us_lem to kind r small fits =
      either HeardFits (ours_or_all own.system to.system && ours_or_all own.component to.component) (λ e. (sender, small, time, fits)) (λ e. tt)

  abbrev HeardOk : Message → Type 0
  HeardOk msg = HeardFits (heard_message own from now msg)

  decoded_fits : (id : ℕ) (p : Bytes) → AllBytes p → HeardOk (decode id p)
  unfolding decode message_of heard_message layout_of values item_in
  decoded_fits id p small =
      let n : (at : ℕ) → number_at 1 at p < byte_values = λ at. number_at_fits 1 at p small in
      let to : (a b : ℕ) → Station = λ a b. station (number_at 1 a p) (number_at 1 b p) in
      decode_cases HeardOk p
      (for_us_lem (to 4 5) (number_at 1 6 p) (changes (number_at 2 0 p) (number_at 2 2 p)) (n 6) tt)
      (for_us_lem (to 2 3) flight (chooses (number_at 2 0 p)) (omega arith) tt)
      tt
      (for_us_lem (to 0 1) (number_at 1 2 p) asks_list (n 2) tt)
      (for_us_lem (to 2 3) (number_at 1 4 p) (announces (number_at 2 0 p)) (n 4) tt)
      (for_us_lem (to 0 1) (number_at 1 2 p) clears (n 2) tt)
      (for_us_lem (to 0 1) (number_at 1 3 p) (acknowledges (number_at 1 2 p)) (n 3) tt)
      (for_us_lem (to 2 3) (number_at 1 4 p) (asks_item (number_at 2 0 p)) (n 4) tt)
      (for_us_lem (to 32 33) (number_at 1 37 p) (brings (item_in p)) (n 37)
      (item_fits (station 0 0) 0 p (record { system = omega arith; component = omega arith }) (omega arith) small))
      tt
      tt
      id

pub heard_fits : (ranged : Bool) (c : Call) → CallFits c → HeardFits (heard ranged c)
unfolding heard
heard_fits ranged (message own from id payload clock store reply) (o, sender, small, now) =
    either HeardFits (ltb store store_words) (λ e. tt)
    (λ e. either HeardFits (not ranged) (λ e. tt)
    (λ e. either HeardFits (ltb reply reply_bytes_min) (λ e. tt)
    (λ e. either HeardFits (eqb (length payload) 0) (λ e. tt) (λ e. decoded_fits own from clock sender now id payload small))))
heard_fits ranged (timer kind clock store reply) h =
    either HeardFits (ltb store store_words) (λ e. tt)
    (λ e. either HeardFits (not ranged) (λ e. tt)
    (λ e. either HeardFits (ltb reply reply_bytes_min) (λ e. tt) (λ e. either HeardFits (is_known kind) (λ e. (e, h.1)) (λ e. tt))))
heard_fits ranged (done store) h = either HeardFits (ltb store store_words) (λ e. tt) (λ e. either HeardFits (not ranged) (λ e. tt) (λ e. tt))
