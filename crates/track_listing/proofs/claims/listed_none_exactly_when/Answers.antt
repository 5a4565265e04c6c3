use Rattle.track_listing.proofs.Stored.{listed-none-exactly-when}
use Rattle.track_listing.proofs.claims.listed_none_exactly_when.Goals as goal

pub returns : goal.returns
returns c = listed-none-exactly-when
