use Rattle.std.proofs.Common.{rules, le_trans, arith}
use Rattle.text.proofs.Appending.{put_whole}
use Rattle.monthly_numbers.proofs.Lines.{text-width}
use Rattle.monthly_numbers.proofs.texts.write_lines.Goals as goal

pub returns-clause-text : goal.returns-clause-text
returns-clause-text c = put_whole _ _ _ _ _ (rw c.new-text.ensures at c.push_lines.ensures) c.len.ensures (λ e. search rules) (le_trans (text-width c.args.endings.now c.requires.few) c.requires.room)

pub returns-clause-fits : goal.returns-clause-fits
returns-clause-fits c = let p = returns-clause-text c in let w = text-width c.args.endings.now c.requires.few in omega (arith, p.next, w)
