use Rattle.floats.proofs.Near.{only-nearest}
use Rattle.floats.proofs.rounded.Goals as goal

pub returns : goal.returns
returns c = only-nearest c.args.m c.requires.0 c.requires.1 c.nearest.result c.nearest.ensures.0 c.nearest.ensures.1
