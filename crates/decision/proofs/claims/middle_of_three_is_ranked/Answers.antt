use Rattle.decision.proofs.Positions.{ends-only, position-3}
use Rattle.decision.proofs.claims.middle_of_three_is_ranked.Goals as goal

pub returns-clause-disagree : goal.returns-clause-disagree
returns-clause-disagree c = ends-only

pub returns-clause-decided : goal.returns-clause-decided
returns-clause-decided c = position-3
