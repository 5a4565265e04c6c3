use Rattle.lists.proofs.Searches.{searches}
use Rattle.decision.proofs.parsed.any_bad.Goals as goal

pub returns-then-bad_at : goal.returns-then-bad_at
returns-then-bad_at c = search searches

pub loop-i-preserved : goal.loop-i-preserved
loop-i-preserved c = search searches

pub returns : goal.returns
returns c = search searches
