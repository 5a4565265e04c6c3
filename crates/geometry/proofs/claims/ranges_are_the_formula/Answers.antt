use Rattle.geometry.proofs.Quadrants.{quadrant-and-rest, ranges-are-the-formula}
use Rattle.geometry.proofs.claims.ranges_are_the_formula.Goals as goal

pub returns-clause-formula : goal.returns-clause-formula
returns-clause-formula c = quadrant-and-rest

pub returns-clause-ranges : goal.returns-clause-ranges
returns-clause-ranges c = ranges-are-the-formula
