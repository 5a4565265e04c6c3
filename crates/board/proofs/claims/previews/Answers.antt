use Rattle.board.proofs.Previewed as P
use Rattle.board.proofs.claims.previews.Goals as goal

pub returns-clause-refused_in_order : goal.returns-clause-refused_in_order
returns-clause-refused_in_order c = P.refused-in-order

pub returns-clause-analyst_as_manager : goal.returns-clause-analyst_as_manager
returns-clause-analyst_as_manager c = P.analyst-as-manager

pub returns-clause-then_convicted : goal.returns-clause-then_convicted
returns-clause-then_convicted c = P.then-convicted

pub returns-clause-convicted_is_present : goal.returns-clause-convicted_is_present
returns-clause-convicted_is_present c = P.convicted-is-present

pub returns-clause-idle_is_present : goal.returns-clause-idle_is_present
returns-clause-idle_is_present c = P.idle-is-present
