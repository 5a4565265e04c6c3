use Rattle.octets.proofs.Framing.{stands}
use Rattle.tables.proofs.strikes.move_down.Goals as goal

pub returns-then-to-from : goal.returns-then-to-from
returns-then-to-from c = rw c.if-to-from.true (stands c.args.t.now c.args.from c.args.w)
