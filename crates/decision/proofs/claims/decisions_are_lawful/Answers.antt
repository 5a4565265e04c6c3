use Rattle.decision.proofs.Decided.{lawful}
use Rattle.decision.proofs.claims.decisions_are_lawful.Goals as goal

pub returns : goal.returns
returns c = lawful
