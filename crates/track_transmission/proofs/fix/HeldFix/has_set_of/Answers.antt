use mathlib.Core.Path.{◌≡◌, sym, ◌∙◌}
use borrow.Author.Rules.{rules}
use Rattle.track_transmission.specs.Values.{same_set}
use Rattle.track_transmission.proofs.Alike.{same-set}
use Rattle.track_transmission.proofs.fix.HeldFix.has_set_of.Goals as goal

pub returns-then-equal-clause-identity : goal.returns-then-equal-clause-identity
returns-then-equal-clause-identity c e =
    let a = c.self in
    let b = c.other in
    let same : c.eq.result ≡ same_set c.args.self.now c.args.other.now = search rules in
    same-set _ _ _ _ _ _ c.args.self.now c.args.other.now a.inside.report.formed b.inside.report.formed a.view_is b.view_is (sym same ∙ e)
