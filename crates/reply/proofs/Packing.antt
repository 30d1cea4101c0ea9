-- What writing asks of a message's bytes, and what it gives of the message.
use Prim.Native.Nat.{ℕ}
use mathlib.Core.Path.{◌≡◌, refl, ap, ap₂, subst, ◌∙◌}
use lib.ListN.{length, take, drop}
use lib.Seq.{take_at}
use Rattle.rules.specs.Payload.{Bytes, trim}
use Rattle.rules.specs.Layouts.{layout_of}
use Rattle.rule_laws.specs.Layout.{length_encode}
use Rattle.rules.specs.Messages.{Message, id_of, encode, decode}
use Rattle.rule_laws.specs.ReadBack.{reads_back}
use Rattle.fields.specs.Packed.{BytesOf}
use Rattle.trimming.specs.Written.{Written}
use Rattle.reply.specs.Written.{Wrote}

-- what writing asks of a message's bytes
pub ready : (m : Message) (bs : Bytes) (id : ℕ) → id_of m ≡ id → BytesOf m bs → length bs ≡ (layout_of id).full
ready m bs id is b = ap length b.all ∙ length_encode m ∙ ap (λ (k : ℕ). (layout_of k).full) is

-- bytes that are a message's are written as the message, and read back as it
pub wrote_as : (m : Message) (bs before after : Bytes) (n : ℕ) → BytesOf m bs → Written bs before after n → Wrote m before after n
wrote_as m bs before after n b w =
    let written = subst (λ (l : Bytes). Written l before after n) b.all w in
    let bytes = trim (encode m) in
    record {
      written = written;
      reads = λ room.
          let there = written.fits room in
          ap (decode (id_of m)) (ap₂ take there.size there.held ∙ take_at bytes (drop (length bytes) before) (length bytes) refl) ∙ reads_back m b.fits;
    }
