use Rattle.std.proofs.Common.{◌≡◌, sym, ap, Err}
use Rattle.register.proofs.Further.{runs-formed}
use Rattle.session_lines.specs.Session.{at_start, calls_from}
use Rattle.rooms_text.specs.declared.reading.Refusal.TheVariants.{Session}
use Rattle.rooms_text.specs.Reading.{session_in, answer_of}
use Rattle.rooms_text.proofs.Held.{session-good, session-refused}
use Rattle.rooms_text.proofs.reading.read_session.Goals as goal

pub returns-in-Ok-clause-left : goal.returns-in-Ok-clause-left
returns-in-Ok-clause-left c = rw (session-good c.args.input.now (rw c.in-Ok.is at c.check.ensures)) c.perform_all.ensures

pub returns-in-Ok-clause-formed : goal.returns-in-Ok-clause-formed
returns-in-Ok-clause-formed c = rw c.perform_all.ensures (runs-formed (calls_from (at_start c.args.input.now)))

pub returns-in-Err-clause-answer : goal.returns-in-Err-clause-answer
returns-in-Err-clause-answer c =
    let refused : answer_of (session_in c.args.input.now) ≡ Err (Session c.in-Err.refusal) =
    ap answer_of (session-refused c.args.input.now c.in-Err.refusal (rw c.in-Err.is at c.check.ensures)) in
    sym refused
