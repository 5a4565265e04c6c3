use Rattle.track_transmission.specs.Parts.{record_formed}
use Rattle.track_transmission.proofs.Holding.{all-at}
use Rattle.track_transmission.proofs.transmission.Transmission.read.Goals as goal

pub read-requires-clause-formed : goal.read-requires-clause-formed
read-requires-clause-formed c = all-at record_formed c.fix_places-standing.result.now c.loop-fix.fix-index c.fix_places-standing.ensures.formed c.loop-fix-test.true

pub read-requires-in-loop-refusal : goal.read-requires-in-loop-refusal
read-requires-in-loop-refusal c = all-at record_formed c.refused_places-refused.result.now c.loop-refusal.refusal-index c.refused_places-refused.ensures.formed c.loop-refusal-test.true
