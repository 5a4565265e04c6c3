use mathlib.Core.Path.{ap, ◌∙◌}
use Rattle.geometry.specs.Factors.{factor_of}
use Rattle.decision_items.specs.Claimed.{claim_of}
use Rattle.decision_items.proofs.item.Item.factor.Goals as goal

pub returns : goal.returns
unfolding claim_of
returns c = c.cholesky.ensures ∙ ap factor_of c.covariance.ensures
