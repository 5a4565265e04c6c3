use Rattle.std.proofs.Common.{arith, rules}
use Rattle.text.proofs.Appending.{put_whole}
use Rattle.session_text.proofs.Refused.{reason-short}
use Rattle.session_text.proofs.refusals.Refusal.write_reason.Goals as goal

pub returns : goal.returns
returns c =
    let short = reason-short c.args.input.now c.args.self in
    let put = put_whole _ _ _ _ _ (rw c.new-text.ensures at c.push_reason.ensures) c.len.ensures (λ e. search rules) (omega (arith, short)) in
    (omega (arith, put.next, short), put)
