use Rattle.std.proofs.Common.{rules, arith}
use Rattle.text.proofs.Appending.{put_whole}
use Rattle.rooms_text.proofs.Widths.{prefix-width}
use Rattle.rooms_text.proofs.boards.write_prefix.Goals as goal

pub returns : goal.returns
returns c =
    let short = prefix-width c.args.room c.args.number in
    let put = put_whole _ _ _ _ _ (rw c.new-text.ensures at c.push_prefix.ensures) c.len.ensures (λ e. search rules) (omega (arith, short)) in
    (omega (arith, put.next, short), put)
