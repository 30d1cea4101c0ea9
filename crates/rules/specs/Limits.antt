-- Document 01's sizes, limits and numbers, each named once. Everything else cites these names.
use Rattle.std.specs.Prelude.{ℕ, ◌-◌, ◌*◌, ◌^◌, List, [], ◌∷◌, get_or, ℤ, negsuc}

-- ---- kinds: "flight (0), fence (1), rally (2)"; "255 in CLEAR_ALL"

abbrev pub flight : ℕ
flight = 0

abbrev pub fence : ℕ
fence = 1

abbrev pub rally : ℕ
rally = 2

abbrev pub every_kind : ℕ
every_kind = 255

abbrev pub kinds : List ℕ
kinds = flight ∷ fence ∷ rally ∷ []

-- ---- sizes: "flight 256 items, fence 64, rally 32; 15 jump items in a flight plan; 5 repeats; 250 ms; 64 jumps followed in one search"

abbrev pub sizes : List ℕ
sizes = 256 ∷ 64 ∷ 32 ∷ []

-- the most items that a plan of a kind has
abbrev pub size_of : ℕ → ℕ
size_of kind = get_or sizes kind 0

abbrev pub max_jumps : ℕ
max_jumps = 15

abbrev pub max_repeats : ℕ
max_repeats = 5

abbrev pub expiry_ms : ℕ
expiry_ms = 250

abbrev pub max_followed : ℕ
max_followed = 64

-- ---- the store: "The store is 5,632 words (2 x 352 x 8)" (M-106); "Either half has flight from item place 0, fence from 256, rally from 320"

-- "payload 73, all 38 bytes"
abbrev pub item_bytes : ℕ
item_bytes = 38

-- "Keep each item as eight words"
abbrev pub item_words : ℕ
item_words = 8

abbrev pub half_places : ℕ
half_places = 352

abbrev pub first_places : List ℕ
first_places = 0 ∷ 256 ∷ 320 ∷ []

-- the item place at which a kind begins, in either half
abbrev pub first_place_of : ℕ → ℕ
first_place_of kind = get_or first_places kind 0

abbrev pub store_words : ℕ
store_words = 2 * half_places * item_words

-- "Reply buffer 54 bytes"
abbrev pub reply_bytes_min : ℕ
reply_bytes_min = 54

-- ---- widths: "a 32-bit count of milliseconds that runs over to 0"; "2^31 or more is read as 0"; "from 4294967295 to 1"

abbrev pub byte_values : ℕ
byte_values = 256

abbrev pub clock_values : ℕ
clock_values = 2 ^ 32

abbrev pub half_clock : ℕ
half_clock = 2 ^ 31

-- "signed 16-bit" (M-108): from here on a 16-bit pattern is a negative number
abbrev pub half_short : ℕ
half_short = 2 ^ 15

abbrev pub last_number : ℕ
last_number = 2 ^ 32 - 1

-- ---- items: "x within ±900000000, y within ±1800000000"

abbrev pub x_limit : ℕ
x_limit = 900000000

abbrev pub y_limit : ℕ
y_limit = 1800000000

-- "param 2 whole, -1 to 32767"; "jump counts 0 to 32767"
abbrev pub forever : ℤ
forever = negsuc 0

abbrev pub max_runs : ℕ
max_runs = 32767

-- "param 1 from 0 to 360"
abbrev pub full_turn : ℕ
full_turn = 360

-- "param 1 whole, 1 to 16; param 2 whole, 500 to 2500"
abbrev pub first_servo : ℕ
first_servo = 1

abbrev pub last_servo : ℕ
last_servo = 16

abbrev pub min_pulse : ℕ
min_pulse = 500

abbrev pub max_pulse : ℕ
max_pulse = 2500

-- "param 1 whole, 3 to 64"
abbrev pub min_vertices : ℕ
min_vertices = 3

abbrev pub max_vertices : ℕ
max_vertices = 64

-- "at most one 5000"
abbrev pub max_return_points : ℕ
max_return_points = 1

-- ---- outcomes

abbrev pub replied : ℕ
replied = 0

abbrev pub no_reply : ℕ
no_reply = 1

abbrev pub short_reply : ℕ
short_reply = 10

abbrev pub empty_payload : ℕ
empty_payload = 11

abbrev pub not_read : ℕ
not_read = 12

abbrev pub not_for_us : ℕ
not_for_us = 13

abbrev pub short_store : ℕ
short_store = 14

abbrev pub out_of_range : ℕ
out_of_range = 15

-- ---- results: "0 accepted, 2 unsupported frame, 3 unsupported, 4 no space, 5 invalid, 6 to 12 invalid param 1 to 7
-- (x is 10, y is 11, z is 12), 13 invalid sequence, 14 denied, 15 cancelled"

abbrev pub accepted : ℕ
accepted = 0

abbrev pub unsupported_frame : ℕ
unsupported_frame = 2

abbrev pub unsupported : ℕ
unsupported = 3

abbrev pub no_space : ℕ
no_space = 4

abbrev pub invalid : ℕ
invalid = 5

abbrev pub invalid_param1 : ℕ
invalid_param1 = 6

abbrev pub invalid_param2 : ℕ
invalid_param2 = 7

abbrev pub invalid_x : ℕ
invalid_x = 10

abbrev pub invalid_y : ℕ
invalid_y = 11

abbrev pub invalid_z : ℕ
invalid_z = 12

abbrev pub invalid_sequence : ℕ
invalid_sequence = 13

abbrev pub denied : ℕ
denied = 14

abbrev pub cancelled : ℕ
cancelled = 15
