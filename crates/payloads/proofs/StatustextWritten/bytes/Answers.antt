-- The fields beside the text are set, and the text is copied between them.
use Prim.Native.Nat.{ℕ, ◌<◌}
use mathlib.Core.Path.{◌≡◌, ap, sym, ◌∙◌}
use mathlib.Core.List.{List, [], ◌∷◌, ◌++◌}
use native.Mathlib.Omega.{arith}
use lib.Dec.{lit≤}
use lib.ListN.{length, get_or}
use lib.Seq.{take_all}
use mir.Val.{Fits}
use mir.Syntax.{w8}
use Rattle.rules.specs.Payload.{bytes_of}
use Rattle.rules.specs.Layouts.{u8, u16, layout_of, pack}
use Rattle.rules.specs.Messages.{encode}
use Rattle.fields.specs.Packed.{one_byte, two_bytes}
use Rattle.payloads.proofs.Texts.{pack_chars, chars_fit}
use borrow.Author.Rules.{rules}
use Rattle.payloads.proofs.StatustextWritten.bytes.Goals as goal

pub returns-clause-all : goal.returns-clause-all
unfolding encode layout_of pack
returns-clause-all c = let m = c.args.self in
    let long : length m.text ≡ 50 = search rules in
    let small : (i : ℕ) → Fits w8 (get_or m.text i 0) = search rules in
    let severity : m.severity < 256 = search rules in
    let id : m.id < 65536 = search rules in
    let chunk : m.chunk < 256 = search rules in
    let first = one_byte m.severity (severity) in
    let whole = take_all 50 m.text (omega (arith, long)) in
    let last = one_byte m.chunk (chunk) in
    record {
      all =
          c.copy.ensures
          ∙ (λ i. first i ++ (whole i ++ (two_bytes m.id c.bytes16-id.ensures i ++ (last i ++ []))))
          ∙ ap (λ (l : List ℕ). bytes_of 1 m.severity ++ l)
          (sym (pack_chars 50 1 m.text (m.id ∷ m.chunk ∷ []) (u16 51 ∷ u8 53 ∷ []) (long) (λ i. (small i).fits)));
      fits = (severity, chars_fit 50 1 m.text (m.id ∷ m.chunk ∷ []) (u16 51 ∷ u8 53 ∷ []) long (λ i. (small i).fits) (id, (chunk, tt)));
    }
