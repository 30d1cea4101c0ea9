-- Each field is its own bytes, in the layout's order, and fits by its type.
use Rattle.std.proofs.Common.{[], ◌++◌, rules}
use Rattle.rules.specs.Layouts.{layout_of, pack}
use Rattle.rules.specs.Messages.{encode}
use Rattle.fields.specs.Packed.{one_byte, two_bytes, four_bytes}
use Rattle.payloads.proofs.CountWritten.bytes.Goals as goal

pub returns-clause-all : goal.returns-clause-all
unfolding encode layout_of pack
returns-clause-all c = let m = c.args.self in
    let system = one_byte m.system (search rules) in
    let component = one_byte m.component (search rules) in
    let kind = one_byte m.kind (search rules) in
    record { all = λ i. two_bytes m.count c.bytes16-count.ensures i ++ (system i ++ (component i ++ (kind i ++ (four_bytes m.number c.bytes32-number.ensures i ++ [])))); fits = search rules }
