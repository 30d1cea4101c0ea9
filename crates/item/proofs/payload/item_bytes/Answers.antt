-- `item::payload::item_bytes` meets its contract: each field is its own bytes, in the layout's order, and fits by its type.
use Prim.Native.Nat.{◌<◌}
use mathlib.Core.List.{[], ◌++◌}
use Rattle.rules.specs.Layouts.{layout_of, pack}
use Rattle.rules.specs.Messages.{station, item_int, encode}
use Rattle.rule_laws.specs.Fitting.{Fits}
use Rattle.item.specs.Patterns.{patterns}
use Rattle.fields.specs.Packed.{one_byte, two_bytes, four_bytes}
use borrow.Author.Rules.{rules}
use Rattle.item.proofs.payload.item_bytes.Goals as goal

pub returns : goal.returns
unfolding encode layout_of pack
returns c =
    let a = c.args in
    let fit : (a.system < 256) × (a.component < 256) × (a.item.frame < 256) × (a.current < 256) × (a.item.autocontinue < 256) × (a.item.kind < 256) =
    (search rules, search rules, search rules, search rules, search rules, search rules) in
    -- what the struct's type says of its values
    let fits : Fits (item_int (station a.system a.component) a.current (patterns a.item)) = search rules in
    let system = one_byte a.system fit.0 in
    let component = one_byte a.component fit.1 in
    let frame = one_byte a.item.frame fit.2 in
    let current = one_byte a.current fit.3 in
    let autocontinue = one_byte a.item.autocontinue fit.4 in
    let kind = one_byte a.item.kind fit.5 in
    record {
      all = λ i. four_bytes a.item.bits1 c.bytes32-a.ensures i ++ (four_bytes a.item.bits2 c.bytes32-b.ensures i ++ (four_bytes a.item.bits3 c.bytes32-c.ensures i ++ (four_bytes a.item.bits4 c.bytes32-d.ensures i ++ (four_bytes a.item.bits_x c.bytes32-x.ensures i ++ (four_bytes a.item.bits_y c.bytes32-y.ensures i ++ (four_bytes a.item.bits_z c.bytes32-z.ensures i ++ (two_bytes a.item.seq c.bytes16-seq.ensures i ++ (two_bytes a.item.command c.bytes16-command.ensures i ++ (system i ++ (component i ++ (frame i ++ (current i ++ (autocontinue i ++ (kind i ++ []))))))))))))));
      fits = fits;
    }
