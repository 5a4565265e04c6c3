use Rattle.std.proofs.Common.{refl, arith}
use Rattle.decision.proofs.Holding.{each-one, in-front, decides}
use Rattle.decision.proofs.decide_fewest.Goals as goal

pub read-requires : goal.read-requires
read-requires g c κs = (
  (refl, tt),
  (λ i h. c.requires.given i (in-front c.args.n _ i h), each-one (λ i x. goal.F-post g c.args.item i x) c.args.n _ c.item-items.result refl c.item-items.ensures),
)

pub returns : goal.returns
returns g c = decides c.args.n _ c.read.new.items _ (omega (arith, c.requires.n_bound)) c.read.ensures c.decide_items.ensures
