use mathlib.Core.Path.{◌∙◌}
use Rattle.track_transmission.specs.Parts.{record_formed}
use Rattle.track_transmission.proofs.Holding.{all-at, stands-held, refused-within, refused-held}
use Rattle.track_transmission.proofs.block.Block.held_fix.Goals as goal

pub read-requires-clause-formed : goal.read-requires-clause-formed
read-requires-clause-formed c = all-at record_formed c.fix_places-standing.result.now c.args.k c.fix_places-standing.ensures.formed c.if-k-standing.true

pub returns-then-k-standing : goal.returns-then-k-standing
returns-then-k-standing c =
    c.read.ensures ∙ stands-held c.fix_places-standing.result.now c.args.self.now c.fix_places-standing.ensures.values c.args.k c.if-k-standing.true

pub bounds-refused_places-k : goal.bounds-refused_places-k
bounds-refused_places-k c =
    refused-within c.fix_places-standing.result.now c.refused_places.result.now c.args.self.now c.fix_places-standing.ensures.values c.refused_places.ensures.values c.args.k c.if-k-standing.false c.requires

pub read-requires-2-clause-formed : goal.read-requires-2-clause-formed
read-requires-2-clause-formed c =
    all-at record_formed c.refused_places.result.now _ c.refused_places.ensures.formed
    (refused-within c.fix_places-standing.result.now c.refused_places.result.now c.args.self.now c.fix_places-standing.ensures.values c.refused_places.ensures.values c.args.k c.if-k-standing.false c.requires)

pub returns : goal.returns
returns c =
    c.read-2.ensures
    ∙ refused-held c.fix_places-standing.result.now c.refused_places.result.now c.args.self.now c.fix_places-standing.ensures.values c.refused_places.ensures.values c.args.k c.if-k-standing.false c.requires
