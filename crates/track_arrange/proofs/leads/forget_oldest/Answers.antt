use native.Mathlib.Omega.{arith}
use Rattle.track_arrange.proofs.Entering.{first-gone, none-gone}
use Rattle.track_arrange.proofs.leads.forget_oldest.Goals as goal

pub returns-then-len-gt-MAX_TRANSMISSIONS : goal.returns-then-len-gt-MAX_TRANSMISSIONS
returns-then-len-gt-MAX_TRANSMISSIONS c =
    first-gone c.args.leads.now.items c.remove.new.self.items (omega (arith, c.len.ensures)) (omega (arith, c.if-len-gt-MAX_TRANSMISSIONS.true, c.len.ensures.value)) c.remove.ensures.items

pub returns-else-len-gt-MAX_TRANSMISSIONS : goal.returns-else-len-gt-MAX_TRANSMISSIONS
returns-else-len-gt-MAX_TRANSMISSIONS c =
    none-gone c.args.leads.now.items (omega (arith, c.if-len-gt-MAX_TRANSMISSIONS.false, c.len.ensures.value))
