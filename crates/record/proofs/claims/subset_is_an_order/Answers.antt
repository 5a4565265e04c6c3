use Rattle.record.proofs.Laws.{subset-irrefl, subset-trans}
use Rattle.record.proofs.claims.subset_is_an_order.Goals as goal

pub returns : goal.returns
returns c = record { irreflexive = subset-irrefl; transitive = subset-trans }
