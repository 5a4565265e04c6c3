use Rattle.monthly_numbers.proofs.Claimed.{represented-once}
use Rattle.monthly_numbers.proofs.claims.fixes_are_represented_once.Goals as goal

pub returns : goal.returns
returns c = represented-once
