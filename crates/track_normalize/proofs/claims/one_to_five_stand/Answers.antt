use Rattle.track_normalize.proofs.Claimed.{some-stand, few-kept}
use Rattle.track_normalize.proofs.claims.one_to_five_stand.Goals as goal

pub returns-clause-some_stand : goal.returns-clause-some_stand
returns-clause-some_stand c = some-stand

pub returns-clause-few_kept : goal.returns-clause-few_kept
returns-clause-few_kept c = few-kept
