use Rattle.monthly_numbers.proofs.Claimed.{lines-are-short}
use Rattle.monthly_numbers.proofs.claims.lines_are_short.Goals as goal

pub returns : goal.returns
returns c = lines-are-short
