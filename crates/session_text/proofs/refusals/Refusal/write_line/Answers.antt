use Rattle.std.proofs.Common.{arith}
use Rattle.session_text.proofs.Cases.{refusal-short}
use Rattle.session_text.proofs.refusals.Refusal.write_line.Goals as goal

pub returns : goal.returns
returns c =
    let short = refusal-short c.args.self in
    let put = c.write.ensures (omega (arith, short)) in
    (omega (arith, put.next, short), put)
