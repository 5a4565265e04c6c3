use native.Mathlib.Omega.{arith}
use Rattle.track_recheck.proofs.Alone.{is-alone}
use Rattle.track_recheck.proofs.rechecks.only_fix.Goals as goal

pub returns-then-refused_count-eq0 : goal.returns-then-refused_count-eq0
returns-then-refused_count-eq0 c =
    is-alone c.fix.result c.args.block.now (omega (arith, c.fix_count.ensures, c.if-fix_count-eq1.true)) (omega (arith, c.refused_count.ensures, c.if-refused_count-eq0.true)) c.fix.ensures
