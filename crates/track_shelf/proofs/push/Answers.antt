use Rattle.std.proofs.Common.{arith}
use Rattle.track_shelf.proofs.Writing.{pushed}
use Rattle.track_shelf.proofs.push.Goals as goal

pub returns : goal.returns
returns c = pushed c.args.shelf.now c.requires.sound c.requires.room _ (omega (arith, c.put.ensures.0, c.put.ensures.1.next)) _ c.put.new.out c.put.ensures.1
