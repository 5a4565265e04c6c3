use Rattle.track_transmission.specs.Bytes.{fix_in}
use Rattle.track_transmission.specs.Parts.{record_formed}
use Rattle.track_transmission.proofs.Holding.{all-at, place-within, place-holds}
use Rattle.track_transmission.proofs.block.Block.fix.Goals as goal

pub bounds-fix_places-k : goal.bounds-fix_places-k
bounds-fix_places-k c = place-within fix_in _ _ c.fix_places.ensures.values c.args.k c.requires

pub read-requires-clause-formed : goal.read-requires-clause-formed
read-requires-clause-formed c = all-at record_formed _ c.args.k c.fix_places.ensures.formed (place-within fix_in _ _ c.fix_places.ensures.values c.args.k c.requires)

pub returns : goal.returns
returns c = place-holds fix_in _ _ c.fix_places.ensures.values c.args.k c.requires _ c.read.ensures
