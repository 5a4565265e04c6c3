use mathlib.Core.Path.{ap, ap₂, ◌∙◌}
use Rattle.arithmetic.specs.Stages.{placed_of, compared_of}
use Rattle.arithmetic.proofs.Staged.{staged}
use Rattle.arithmetic.proofs.compare.Goals as goal

pub returns-clause-agreement : goal.returns-clause-agreement
returns-clause-agreement c a b p f q =
    c.judged.ensures ∙ ap (compared_of c.args.smaller.now c.args.factor.now) q ∙ ap₂ (λ x y. compared_of x y (placed_of b)) p f ∙ staged a b
