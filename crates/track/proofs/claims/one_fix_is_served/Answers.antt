use Rattle.track.proofs.Ordered.{one-served, latest-served}
use Rattle.track.proofs.claims.one_fix_is_served.Goals as goal

pub returns-clause-one : goal.returns-clause-one
returns-clause-one c = one-served

pub returns-clause-latest : goal.returns-clause-latest
returns-clause-latest c = latest-served
