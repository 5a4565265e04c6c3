use Rattle.octets.proofs.Alike.{alike-le}
use Rattle.octets.proofs.order.shorter.Goals as goal

pub returns-then-a-b-clause-most : goal.returns-then-a-b-clause-most
returns-then-a-b-clause-most c = (alike-le c.args.a.now c.args.b.now).0

pub returns-else-a-b-clause-most : goal.returns-else-a-b-clause-most
returns-else-a-b-clause-most c = (alike-le c.args.a.now c.args.b.now).1
