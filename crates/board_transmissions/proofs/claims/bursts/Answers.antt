use Rattle.board_transmissions.proofs.Bursts.{bursts-stay-apart}
use Rattle.board_transmissions.proofs.Limits.{far-subset}
use Rattle.board_transmissions.proofs.claims.bursts.Goals as goal

pub returns-clause-stay_apart : goal.returns-clause-stay_apart
returns-clause-stay_apart c = bursts-stay-apart

pub returns-clause-far_subset : goal.returns-clause-far_subset
returns-clause-far_subset c = far-subset
