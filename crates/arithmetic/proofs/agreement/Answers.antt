use Rattle.arithmetic.proofs.Staged.{judged-is}
use Rattle.arithmetic.proofs.agreement.Goals as goal

pub returns : goal.returns
returns c =
    rw (c.judged.ensures, c.is_some.ensures, c.cholesky-factor.ensures, c.place-from.ensures, c.to_ecef-to.ensures, c.geodetic.ensures)
    (judged-is c.args.smaller c.args.larger)
