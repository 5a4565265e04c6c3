use native.Mathlib.Omega.{arith}
use Rattle.track_transmission.specs.Parts.{record_formed}
use Rattle.track_transmission.proofs.Holding.{all-at}
use Rattle.track_transmission.proofs.block.Block.kept.Goals as goal

pub read-requires-clause-formed : goal.read-requires-clause-formed
read-requires-clause-formed c = all-at record_formed c.fix_places.result.now 0 c.fix_places.ensures.formed (omega (arith, c.in-len1-up.len_at_least))
