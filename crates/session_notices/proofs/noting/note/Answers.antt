use Rattle.std.proofs.Common.{◌≡◌, arith, rules, false, ◌==◌}
use Rattle.session_notices.proofs.Fronts.{front-put}
use Rattle.session_notices.proofs.noting.note.Goals as goal

pub returns : goal.returns
returns c =
    let e = front-put _ _ _ _ c.write_notice-n.ensures.1 (omega (arith, c.write_notice-n.ensures.0, c.write_notice-n.ensures.1.next)) in
    let q : (c.args.answer == 0) ≡ false = grind arith in
    rw q (rw (← e) (search rules))
