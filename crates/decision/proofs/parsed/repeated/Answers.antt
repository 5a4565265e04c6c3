use Rattle.lists.proofs.Searches.{searches}
use Rattle.decision.proofs.parsed.repeated.Goals as goal

pub returns-then-same_identity : goal.returns-then-same_identity
returns-then-same_identity c = search searches

pub loop-j-preserved : goal.loop-j-preserved
loop-j-preserved c = search searches

pub returns : goal.returns
returns c = search searches
