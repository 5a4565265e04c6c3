use Rattle.std.proofs.Common.{arith, rules}
use Rattle.session_notices.proofs.Fronts.{front-put}
use Rattle.session_notices.proofs.saying.reason.Goals as goal

pub returns : goal.returns
returns c =
    let e = front-put _ _ _ _ c.write_reason-n.ensures.1 (omega (arith, c.write_reason-n.ensures.0, c.write_reason-n.ensures.1.next)) in
    rw (← e) (search rules)
