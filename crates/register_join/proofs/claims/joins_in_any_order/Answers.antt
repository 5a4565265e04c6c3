use Rattle.register_join.proofs.JoinBytes.{either-way, regrouped, nothing-new}
use Rattle.register_join.proofs.claims.joins_in_any_order.Goals as goal

pub returns-clause-commutative : goal.returns-clause-commutative
returns-clause-commutative c = either-way

pub returns-clause-associative : goal.returns-clause-associative
returns-clause-associative c = regrouped

pub returns-clause-idempotent : goal.returns-clause-idempotent
returns-clause-idempotent c = nothing-new
