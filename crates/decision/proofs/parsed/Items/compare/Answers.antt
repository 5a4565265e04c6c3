use Rattle.std.proofs.Common.{ap, ap₂, ◌∙◌}
use Rattle.std.specs.Cmp.Lexicographic.{slice_cmp}
use Rattle.std.specs.Ordering.{is_lt, nat_cmp}
use Rattle.decision.proofs.Sorted.{std-order}
use Rattle.decision.proofs.parsed.Items.compare.Goals as goal

pub returns : goal.returns
returns c =
    ap is_lt (c.cmp.ensures ∙ ap₂ (slice_cmp nat_cmp) c.identity.ensures c.identity-2.ensures)
    ∙ std-order _ _
