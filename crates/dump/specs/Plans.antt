-- The lines of a dump that tell a kind's plan and upload, and the items of both.
use Rattle.std.specs.Prelude.{ℕ, zero, suc, ◌+◌, ◌-◌, Bool, not, cond, [], ◌∷◌, ◌++◌, Option, Some, None}
use Rattle.rules.specs.Payload.{Bytes}
use Rattle.rules.specs.Model.{shown_number}
use Rattle.plan.specs.declared.Plan.{Plan}
use Rattle.plan.specs.declared.Run.{Run}
use Rattle.places.specs.Forms.{Store, words, item_at}
use Rattle.text.specs.Words.{ascii}
use Rattle.rows.specs.Rows.{begun, row, line}

-- "`i K I BYTES` ..: the 38 bytes at the plan's place I", "`w K I BYTES` ..: the 38 bytes in the other half". Of a store of words "it puts seq, kind and the
-- zeros back"
abbrev pub item_line : (letter kind n : ℕ) → Bytes → Bytes
item_line letter kind n bytes = line (letter ∷ []) (kind ∷ n ∷ []) (ascii " ") bytes (ascii "\n")

-- the lines of n items of a kind in a half, from a number on
unfoldable pub item_lines : (letter kind : ℕ) (half : Bool) → Store → (from n : ℕ) → Bytes
item_lines letter kind half store from zero = []
item_lines letter kind half store from (suc n) = item_lines letter kind half store from n ++ item_line letter kind (from + n) (item_at words store half kind (from + n))

-- (M-108) "A partial upload's line in DUMP is `u K SYSTEM COMPONENT COUNT NEXT START REPEATS P FIRST LAST` (P is the letter) .. A whole upload's line does not change."
unfoldable pub part_text : (partial : Bool) (first last : ℕ) → Bytes
part_text partial first last = cond partial (ascii " " ++ row 80 (first ∷ last ∷ [])) (ascii "\n")

-- "`u K -` (no upload) or `u K SYSTEM COMPONENT COUNT NEXT START REPEATS`"
unfoldable pub upload_line : (kind : ℕ) → Option Run → Bytes
upload_line kind None = begun 117 (kind ∷ []) ++ ascii " -\n"
upload_line kind (Some r) =
    begun 117 (kind ∷ r.from.system ∷ r.from.component ∷ r.count ∷ r.next ∷ r.started ∷ r.repeats ∷ []) ++ part_text r.partial r.first r.last

-- "its `w` lines run from FIRST to NEXT - 1" (M-108); a whole upload's first number is 0
unfoldable pub brought_lines : (kind : ℕ) (half : Bool) → Option Run → Store → Bytes
brought_lines kind half None store = []
brought_lines kind half (Some r) store = item_lines 119 kind half store r.first (r.next - r.first)

-- a plan's half, or a mark in its place
unfoldable pub half_mark : (halves half : Bool) → Bytes
half_mark halves half = cond halves (cond half (ascii " 1\n") (ascii " 0\n")) (ascii " -\n")

-- "`k K LENGTH NUMBER SHOWN HALF`", and the upload's line
unfoldable pub plan_line : (halves : Bool) (kind : ℕ) → Plan → Bytes
plan_line halves kind p =
    begun 107 (kind ∷ p.len ∷ p.number ∷ shown_number p.len p.number ∷ []) ++ (half_mark halves p.half ++ upload_line kind p.upload)

-- the items follow: `i` those of the plan, `w` those that the upload has brought, in the other half
unfoldable pub kind_text : (halves : Bool) (kind : ℕ) → Plan → Store → Bytes
kind_text halves kind p store = plan_line halves kind p ++ (item_lines 105 kind p.half store 0 p.len ++ brought_lines kind (not p.half) p.upload store)
