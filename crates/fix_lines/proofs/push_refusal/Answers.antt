use Rattle.std.proofs.Common.{sym, ⊎_elim}
use Rattle.text.proofs.Appending.{append-nil}
use Rattle.fix_lines.specs.Pieces.{refusal_text}
use Rattle.fix_lines.proofs.push_refusal.Goals as goal

pub returns-in-Ranked : goal.returns-in-Ranked
unfolding refusal_text
returns-in-Ranked c =
    let none = sym (append-nil c.args.out.now) in
    ⊎_elim (λ e. rw e none) (λ e. rw e none) c.in-Ranked.is
