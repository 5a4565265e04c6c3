use Rattle.track_arrange.proofs.Claimed.{latest-left, few-all-left}
use Rattle.track_arrange.proofs.claims.latest_left.Goals as goal

pub returns-clause-latest : goal.returns-clause-latest
returns-clause-latest c = latest-left

pub returns-clause-all_of_few : goal.returns-clause-all_of_few
returns-clause-all_of_few c = few-all-left
