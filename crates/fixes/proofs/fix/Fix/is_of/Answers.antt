use Rattle.std.proofs.Common.{ap₂, ◌∙◌}
use Rattle.octets.specs.Order.{same}
use Rattle.fixes.specs.Fix.{Fix}
use Rattle.fixes.proofs.fix.Fix.is_of.Goals as goal

pub returns : goal.returns
returns c = c.eq.ensures ∙ ap₂ (λ (f g : Fix). same f.identity g.identity) c.self.view_is c.other.view_is
