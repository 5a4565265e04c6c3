use Rattle.session_lines.proofs.Swapped.{six}
use Rattle.session_lines.proofs.numbers.six_numbers.Goals as goal

pub returns : goal.returns
returns c = rw (c.number_at.ensures, c.number_at-2.ensures, c.number_at-3.ensures, c.number_at-4.ensures, c.number_at-5.ensures, c.number_at-6.ensures) (six c.args.bytes.now)
