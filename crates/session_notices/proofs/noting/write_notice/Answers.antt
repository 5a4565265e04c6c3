use Rattle.std.proofs.Common.{rules, arith}
use Rattle.text.proofs.Appending.{put_whole}
use Rattle.session_notices.proofs.Widths.{notice-short}
use Rattle.session_notices.proofs.noting.write_notice.Goals as goal

pub returns : goal.returns
returns c =
    let short = notice-short c.args.number c.args.line c.args.answer in
    let put = put_whole _ _ _ _ _ (rw c.new-text.ensures at c.push_notice.ensures) c.len.ensures (λ e. search rules) (omega (arith, short)) in
    (omega (arith, put.next, short), put)
