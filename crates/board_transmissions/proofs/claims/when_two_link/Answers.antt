use Rattle.board_transmissions.proofs.Limits as L
use Rattle.board_transmissions.proofs.Symmetry.{linked-turned}
use Rattle.board_transmissions.proofs.claims.when_two_link.Goals as goal

pub returns-clause-exactly_when : goal.returns-clause-exactly_when
returns-clause-exactly_when c = L.link-exactly-when

pub returns-clause-both_ways : goal.returns-clause-both_ways
returns-clause-both_ways c = linked-turned

pub returns-clause-limit : goal.returns-clause-limit
returns-clause-limit c = L.limit

pub returns-clause-chains_join : goal.returns-clause-chains_join
returns-clause-chains_join c = L.chains-join
