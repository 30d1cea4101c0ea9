-- `script::next_record` meets its contract; the check finds the other ways that the tests can go.
use Prim.Native.Nat.{◌<◌}
use mathlib.Core.Path.{◌≡◌}
use lib.ListN.{length}
use borrow.Author.Rules.{rules}
use borrow.Author.Tests.{ne_eqb, lt-ltb}
use Rattle.rules.specs.Payload.{Bytes}
use Rattle.std.proofs.Common.{Err}
use Rattle.script.specs.declared.kinds.Stop.TheVariants.{Cut}
use Rattle.script.specs.Records.{next_in}
use Rattle.script.proofs.next_record.Goals as goal

cuts_header : (p : Bytes) → (length p ≡ 0 → ⊥) → length p < 24 → Err Cut ≡ next_in p
unfolding next_in
cuts_header p some h = rw (ne_eqb (length p) 0 some, lt-ltb (length p) 24 h)

pub returns-then-bytes-lt-HEADER_BYTES : goal.returns-then-bytes-lt-HEADER_BYTES
returns-then-bytes-lt-HEADER_BYTES c = cuts_header c.args.bytes.now (search rules) c.if-bytes-lt-HEADER_BYTES.true
