use Rattle.register.proofs.Checks.{conviction-in-order, others-convict-nobody}
use Rattle.register.proofs.claims.convictions_and_desks.Goals as goal

pub returns-clause-refused_in_order : goal.returns-clause-refused_in_order
returns-clause-refused_in_order c = conviction-in-order

pub returns-clause-others_convict_nobody : goal.returns-clause-others_convict_nobody
returns-clause-others_convict_nobody c = others-convict-nobody
