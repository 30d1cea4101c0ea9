-- The bytes are the message's, they are written trimmed, and they read back.
use Rattle.std.proofs.Common.{List, ℕ, sym, ◌∙◌, subst}
use Rattle.fields.specs.Packed.{BytesOf}
use Rattle.reply.proofs.Packing.{ready, wrote_as}
use Rattle.reply.proofs.write.Goals as goal

pub write_trimmed-requires-clause-bytes_len : goal.write_trimmed-requires-clause-bytes_len
write_trimmed-requires-clause-bytes_len g c =
    let m = g.M.Written.message c.args.m in
    ready m c.as_slice.result.now c.ID.result (g.met.M.Written.id_is c.args.m ∙ sym c.ID.ensures)
    (subst (λ (l : List ℕ). BytesOf m l) (sym c.as_slice.ensures) c.bytes-bytes.ensures.all)

pub returns : goal.returns
returns g c =
    let m = g.M.Written.message c.args.m in
    wrote_as m c.as_slice.result.now c.args.out.now c.write_trimmed.new.out c.write_trimmed.result
    (subst (λ (l : List ℕ). BytesOf m l) (sym c.as_slice.ensures) c.bytes-bytes.ensures.all) c.write_trimmed.ensures
