use Rattle.arithmetic.proofs.Sigma as S
use Rattle.arithmetic.proofs.claims.sigma_of_no_variance_is_zero.Goals as goal

pub returns : goal.returns
returns c = record { none = S.low-sigma; nan = S.nan-sigma }
