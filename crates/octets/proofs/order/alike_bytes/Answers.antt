use Rattle.std.proofs.Common.{arith}
use borrow.Author.Tests.{ne_eqb, eq-eqb}
use Rattle.octets.proofs.Alike.{byte-ends, byte-alike}
use Rattle.octets.proofs.order.alike_bytes.Goals as goal

pub returns-then-a-i : goal.returns-then-a-i
returns-then-a-i c = byte-ends c.loop-i.i c.args.a.now c.args.b.now c.loop-i.invariant (omega arith) (omega arith) (ne_eqb _ _ c.if-a-i.true)

pub loop-i-preserved : goal.loop-i-preserved
loop-i-preserved c = byte-alike c.loop-i.i c.args.a.now c.args.b.now c.loop-i.invariant (omega arith) (omega arith) (eq-eqb _ _ c.if-a-i.false)
