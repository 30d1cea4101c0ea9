-- Each field is its own bytes, in the layout's order, and fits by its type.
use Rattle.std.proofs.Common.{[], ◌++◌, rules}
use Rattle.rules.specs.Layouts.{layout_of, pack}
use Rattle.rules.specs.Messages.{encode}
use Rattle.fields.specs.Packed.{one_byte, two_bytes, four_bytes}
use Rattle.payloads.proofs.CurrentWritten.bytes.Goals as goal

pub returns-clause-all : goal.returns-clause-all
unfolding encode layout_of pack
returns-clause-all c = let m = c.args.self in
    let state = one_byte m.state (search rules) in
    let mode = one_byte m.mode (search rules) in
    record { all = λ i. two_bytes m.seq c.bytes16-seq.ensures i ++ (two_bytes m.total c.bytes16-total.ensures i ++ (state i ++ (mode i ++ (four_bytes m.mission c.bytes32-a.ensures i ++ (four_bytes m.fence c.bytes32-b.ensures i ++ (four_bytes m.rally c.bytes32-c.ensures i ++ [])))))); fits = search rules }
