use Rattle.decision.proofs.Ranking.{at-in}
use Rattle.decision.proofs.listing.place_of.Goals as goal

pub ranks_before-requires : goal.ranks_before-requires
ranks_before-requires c = (c.requires.below _ (at-in 0 c.args.list.now c.loop-k.k c.loop-k-test.true), c.requires.i_below)
