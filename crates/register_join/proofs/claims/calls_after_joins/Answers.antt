use Rattle.register_join.proofs.Delivered.{call-after-join}
use Rattle.register_join.proofs.claims.calls_after_joins.Goals as goal

pub returns : goal.returns
returns c = call-after-join
