use Rattle.octets.proofs.Comparison.{before-irrefl, before-trans, before_same}
use Rattle.octets.proofs.claims.order_is_strict.Goals as goal

pub returns : goal.returns
returns c = record { irreflexive = before-irrefl; transitive = before-trans; total = before_same }
