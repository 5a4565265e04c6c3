use Rattle.register_join.proofs.Exchanging.{exchange, convergence}
use Rattle.register_join.proofs.Alike.{but-convicted}
use Rattle.register_join.proofs.claims.exchanges.Goals as goal

pub returns-clause-exchange : goal.returns-clause-exchange
returns-clause-exchange c = exchange

pub returns-clause-but_convicted : goal.returns-clause-but_convicted
returns-clause-but_convicted c = but-convicted

pub returns-clause-convergence : goal.returns-clause-convergence
returns-clause-convergence c = convergence
