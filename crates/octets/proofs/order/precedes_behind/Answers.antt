use Rattle.std.proofs.Common.{arith}
use Rattle.octets.proofs.Alike.{alike-le, before-behind}
use Rattle.octets.proofs.order.precedes_behind.Goals as goal

pub bounds-a-i : goal.bounds-a-i
bounds-a-i c = omega (arith, c.requires, alike-le c.args.a.now c.args.b.now)

pub returns-then-i-a : goal.returns-then-i-a
returns-then-i-a c = grind (arith, c.requires, before-behind c.args.a.now c.args.b.now)

pub returns-else-i-a : goal.returns-else-i-a
returns-else-i-a c = grind (arith, c.requires, before-behind c.args.a.now c.args.b.now)

pub returns-else-i-b : goal.returns-else-i-b
returns-else-i-b c = grind (arith, c.requires, before-behind c.args.a.now c.args.b.now)
