use Rattle.track_normalize.proofs.Claimed.{signers-united}
use Rattle.track_normalize.proofs.claims.signers_united.Goals as goal

pub returns : goal.returns
returns c = signers-united
