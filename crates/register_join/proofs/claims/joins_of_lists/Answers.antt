use Rattle.register_join.proofs.JoinLists.{join-holds, join-run}
use Rattle.register_join.proofs.claims.joins_of_lists.Goals as goal

pub returns-clause-remains : goal.returns-clause-remains
returns-clause-remains c = join-holds

pub returns-clause-run : goal.returns-clause-run
returns-clause-run c = join-run
