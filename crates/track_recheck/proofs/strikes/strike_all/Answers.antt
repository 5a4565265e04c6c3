use Rattle.std.proofs.Common.{arith, sym, ap, ◌∙◌}
use mathlib.Core.Path.{subst}
use Rattle.track_normalize.specs.Taking.{Settled}
use Rattle.track_arrange.specs.Blocks.{held}
use Rattle.track_arrange.proofs.Tables.{held-length}
use Rattle.track_recheck.specs.Recheck.{without_engine}
use Rattle.track_recheck.specs.Steps.{AllSettled}
use Rattle.track_recheck.proofs.Rewriting.{renewed-none, renewed-all, next-steady, next-held, renewed-next}
use Rattle.track_recheck.proofs.Settled.{settled-next, settled-all}
use Rattle.track_recheck.proofs.strikes.strike_all.Goals as goal

pub loop-i-init : goal.loop-i-init
loop-i-init c = record { renewed = renewed-none _ c.args.n c.args.t.now c.requires; settled = λ h j l. absurd (omega (arith, l)) }

pub strike_fixes-one-requires : goal.strike_fixes-one-requires
strike_fixes-one-requires c = next-steady c.loop-i.invariant.renewed c.loop-i-test.true

pub loop-i-preserved : goal.loop-i-preserved
loop-i-preserved c =
    let f = without_engine c.args.engine in
    let x = c.strike_fixes-one in
    let r = c.loop-i.invariant.renewed in
    record {
      renewed = renewed-next r c.loop-i-test.true x.new.b x.ensures.steady x.ensures.held;
      settled =
          settled-next f (held c.args.n c.args.t.now) c.loop-i.settled x.result c.loop-i.i c.loop-i.invariant.settled
          (λ h. subst Settled (x.ensures.held ∙ ap f (next-held r c.loop-i-test.true)) (x.ensures.settled h));
    }

pub returns-clause-filled : goal.returns-clause-filled
returns-clause-filled c = c.loop-i.invariant.renewed.filled

pub returns-clause-held : goal.returns-clause-held
returns-clause-held c = renewed-all c.loop-i.invariant.renewed c.loop-i-test.false

pub returns-clause-settled : goal.returns-clause-settled
returns-clause-settled c h =
    let n = held-length c.args.n c.args.t.now in
    subst AllSettled (sym (renewed-all c.loop-i.invariant.renewed c.loop-i-test.false))
    (settled-all (without_engine c.args.engine) (held c.args.n c.args.t.now) c.loop-i.settled c.loop-i.i (omega (arith, n, c.loop-i-test.false, c.loop-i.auto.i-end)) c.loop-i.invariant.settled h)
