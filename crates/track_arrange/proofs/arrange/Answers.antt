use mathlib.Core.Path.{sym, ap, ◌∙◌, subst}
use mathlib.Core.List.{append-nil}
use Rattle.track_arrange.specs.Arranged.{arranged}
use Rattle.track_arrange.specs.Blocks.{held}
use Rattle.track_arrange.specs.Claims.{InOrder}
use Rattle.track_arrange.proofs.Claimed.{order-stays}
use Rattle.track_arrange.proofs.Tables.{held-length}
use Rattle.track_arrange.proofs.arrange.Goals as goal

pub returns-then-ascend : goal.returns-then-ascend
returns-then-ascend c = record {
  filled = c.requires;
  held =
      let ts = held c.args.n c.args.t.now in
      sym (order-stays ts (subst InOrder (c.deref.ensures.0 ∙ c.blocks-all.ensures) (c.ascend.ensures c.if-ascend.true)) (rw (held-length c.args.n c.args.t.now) c.requires.few));
}

pub returns-clause-held : goal.returns-clause-held
returns-clause-held c = c.settle.ensures.held ∙ ap arranged (append-nil (held c.args.n c.args.t.now))
