use Rattle.std.proofs.Common.{arith}
use borrow.Author.Tests.{ne_eqb}
use Rattle.octets.proofs.Alike.{byte-ends}
use Rattle.octets.proofs.order.alike.Goals as goal

pub returns-then-a-b : goal.returns-then-a-b
returns-then-a-b c = byte-ends 0 c.args.a.now c.args.b.now (omega arith) (omega arith) (omega arith) (ne_eqb _ _ c.if-a-b.true)
