use Rattle.octets.proofs.Comparison.{lesser-least, lesser-comm}
use Rattle.octets.proofs.claims.lesser_of_two.Goals as goal

pub returns : goal.returns
returns c = record { least = lesser-least; either_way = lesser-comm }
