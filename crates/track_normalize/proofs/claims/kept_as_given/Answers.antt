use Rattle.track_normalize.proofs.Given.{kept-as-given, refused-against}
use Rattle.track_normalize.proofs.claims.kept_as_given.Goals as goal

pub returns-clause-as_given : goal.returns-clause-as_given
returns-clause-as_given c = kept-as-given

pub returns-clause-against : goal.returns-clause-against
returns-clause-against c = refused-against
