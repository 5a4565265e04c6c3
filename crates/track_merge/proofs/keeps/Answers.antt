use mathlib.Core.Path.{ap, ◌∙◌}
use Rattle.std.specs.List.{list_any}
use Rattle.fixes.specs.Fix.{Fix}
use Rattle.track_merge.specs.Merged.{keeps}
use Rattle.track_merge.proofs.keeps.Goals as goal

pub returns : goal.returns
returns c = c.keeps_identity.ensures ∙ ap (λ (f : Fix). list_any (keeps f) c.args.blocks.now) c.identified.ensures
