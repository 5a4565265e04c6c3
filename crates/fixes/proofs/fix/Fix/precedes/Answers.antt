use Rattle.std.proofs.Common.{ap₂, ◌∙◌}
use Rattle.models.specs.Compared.{lower-is}
use Rattle.fixes.specs.Shown.{lower}
use Rattle.fixes.proofs.fix.Fix.precedes.Goals as goal

pub returns : goal.returns
returns c = c.lt.ensures ∙ lower-is c.self.inside.identity c.other.inside.identity ∙ ap₂ lower c.self.view_is c.other.view_is
