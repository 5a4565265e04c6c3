use Rattle.std.proofs.Common.{ap, ◌∙◌}
use Rattle.arithmetic.specs.Answers.{sigma_of}
use Rattle.toastlagoon.proofs.tl_horizontal_sigma.Goals as goal

pub returns : goal.returns
returns c = c.horizontal_sigma_m.ensures ∙ ap sigma_of c.covariance.ensures
