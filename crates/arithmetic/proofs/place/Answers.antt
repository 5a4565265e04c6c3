use Rattle.arithmetic.specs.Stages.{placed_of}
use Rattle.arithmetic.proofs.place.Goals as goal

pub returns : goal.returns
unfolding placed_of
returns c =
    rw (c.is_some.ensures, c.enu_basis.ensures, c.to_ecef.ensures, c.geodetic-position.ensures)
