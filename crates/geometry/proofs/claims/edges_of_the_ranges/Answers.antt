use Rattle.geometry.proofs.Quadrants.{edges}
use Rattle.geometry.proofs.Positions.{position-4}
use Rattle.geometry.proofs.claims.edges_of_the_ranges.Goals as goal

pub returns-clause-edges : goal.returns-clause-edges
returns-clause-edges c = edges

pub returns-clause-halves : goal.returns-clause-halves
returns-clause-halves c = position-4
