use Rattle.arithmetic.proofs.Placed.{placed-by-formula}
use Rattle.arithmetic.proofs.claims.fixes_are_placed_by_the_formula.Goals as goal

pub returns : goal.returns
returns c = placed-by-formula
