use Rattle.std.proofs.Common.{refl, arith}
use Rattle.errors.proofs.Writing.{put_written}
use Rattle.session_text.proofs.Refused.{reason-some, reason-none, reason-short}
use Rattle.session_text.proofs.performed.reason.Goals as goal

pub returns-in-Ok : goal.returns-in-Ok
returns-in-Ok c = let none = reason-none c.args.input.now c.in-Ok.ensures in rw none refl

pub returns-in-Err : goal.returns-in-Err
returns-in-Err c =
    let some = reason-some c.args.input.now c.in-Err.refusal c.in-Err.ensures in
    rw some (put_written _ _ _ _ c.write_reason.ensures.1 (omega (arith, reason-short c.args.input.now c.in-Err.refusal)))
