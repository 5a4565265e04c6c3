use mathlib.Core.Path.{ap, ◌∙◌}
use Rattle.arithmetic.specs.Agree.{chi_square_in}
use Rattle.decision_items.proofs.item.Item.chi_square.Goals as goal

pub returns : goal.returns
returns c = c.chi_square.ensures ∙ ap chi_square_in c.compare.ensures
