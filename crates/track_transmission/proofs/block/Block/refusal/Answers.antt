use Rattle.track_transmission.specs.Bytes.{refused_in}
use Rattle.track_transmission.specs.Parts.{record_formed}
use Rattle.track_transmission.proofs.Holding.{all-at, place-within, place-holds}
use Rattle.track_transmission.proofs.block.Block.refusal.Goals as goal

pub bounds-refused_places-k : goal.bounds-refused_places-k
bounds-refused_places-k c = place-within refused_in _ _ c.refused_places.ensures.values c.args.k c.requires

pub read-requires : goal.read-requires
read-requires c = all-at record_formed _ c.args.k c.refused_places.ensures.formed (place-within refused_in _ _ c.refused_places.ensures.values c.args.k c.requires)

pub returns : goal.returns
returns c = place-holds refused_in _ _ c.refused_places.ensures.values c.args.k c.requires _ c.read.ensures
