use Rattle.board_transmissions.proofs.Fitness.{self-linked}
use Rattle.board_transmissions.proofs.Partition as P
use Rattle.board_transmissions.proofs.Positions.{position-6}
use Rattle.board_transmissions.proofs.claims.partition.Goals as goal

pub returns-clause-parted : goal.returns-clause-parted
returns-clause-parted c = λ fs few formed apart. P.partition fs (λ f m. self-linked f.record_bytes (formed f m).form)

pub returns-clause-by_two_tags : goal.returns-clause-by_two_tags
returns-clause-by_two_tags c = position-6
