use Rattle.std.proofs.Common.{[], sym, subst}
use Rattle.fixes.proofs.Indexed.{at_in}
use Rattle.track_transmission.specs.Bytes.{transmission_in}
use Rattle.track_normalize.specs.Taking.{Settled}
use Rattle.track_arrange.specs.Blocks.{held}
use Rattle.track_arrange.proofs.Tables.{held-length}
use Rattle.track_recheck.proofs.Rewriting.{renewed-none, renewed-all, next-steady, next-held, renewed-next}
use Rattle.track_recheck.proofs.rechecks.renew_all.Goals as goal

pub loop-i-init : goal.loop-i-init
loop-i-init c = renewed-none _ c.args.n c.args.t.now c.requires.filled

pub renew-requires-clause-steady : goal.renew-requires-clause-steady
renew-requires-clause-steady c = next-steady c.loop-i.invariant c.loop-i-test.true

pub renew-requires-clause-settled : goal.renew-requires-clause-settled
renew-requires-clause-settled c h =
    let ts = held c.args.n c.args.t.now in
    subst Settled (sym (next-held c.loop-i.invariant c.loop-i-test.true))
    (c.requires.settled h _ (at_in (transmission_in []) ts c.loop-i.i (rw (held-length c.args.n c.args.t.now) c.loop-i-test.true)))

pub loop-i-preserved : goal.loop-i-preserved
loop-i-preserved c = renewed-next c.loop-i.invariant c.loop-i-test.true c.renew.new.b c.renew.ensures.steady c.renew.ensures.held

pub returns : goal.returns
returns c = record { filled = c.loop-i.invariant.filled; held = renewed-all c.loop-i.invariant c.loop-i-test.false }
