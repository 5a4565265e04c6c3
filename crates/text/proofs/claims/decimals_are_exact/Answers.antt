use Rattle.text.proofs.Exact.{signed-read, minus-only-below-zero, leading-zero-alone, lowest-width, decimal-texts}
use Rattle.text.proofs.claims.decimals_are_exact.Goals as goal

pub returns-clause-read_back : goal.returns-clause-read_back
returns-clause-read_back c = signed-read

pub returns-clause-minus : goal.returns-clause-minus
returns-clause-minus c = minus-only-below-zero

pub returns-clause-leading_zero : goal.returns-clause-leading_zero
returns-clause-leading_zero c = leading-zero-alone

pub returns-clause-just_so_many : goal.returns-clause-just_so_many
returns-clause-just_so_many c = lowest-width

pub returns-clause-texts : goal.returns-clause-texts
returns-clause-texts c = decimal-texts
