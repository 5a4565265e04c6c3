use Rattle.track_merge.proofs.Claimed.{joining-enters, others-enter-none, few-enter}
use Rattle.track_merge.proofs.claims.those_that_enter.Goals as goal

pub returns-clause-joining : goal.returns-clause-joining
returns-clause-joining c = joining-enters

pub returns-clause-others : goal.returns-clause-others
returns-clause-others c = others-enter-none

pub returns-clause-few : goal.returns-clause-few
returns-clause-few c = few-enter
