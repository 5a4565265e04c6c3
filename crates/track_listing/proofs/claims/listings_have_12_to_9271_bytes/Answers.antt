use Rattle.track_listing.proofs.Lengths.{listing-length, length-numbers}
use Rattle.track_listing.proofs.claims.listings_have_12_to_9271_bytes.Goals as goal

pub returns-clause-length : goal.returns-clause-length
returns-clause-length c = listing-length

pub returns-clause-numbers : goal.returns-clause-numbers
returns-clause-numbers c = length-numbers
