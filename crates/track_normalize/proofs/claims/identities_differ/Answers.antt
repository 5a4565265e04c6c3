use Rattle.track_normalize.proofs.Claimed.{identities-differ}
use Rattle.track_normalize.proofs.claims.identities_differ.Goals as goal

pub returns : goal.returns
returns c = identities-differ
