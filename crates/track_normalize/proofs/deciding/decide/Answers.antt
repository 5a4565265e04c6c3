use mathlib.Core.Path.{ap, ◌∙◌}
use Rattle.track_normalize.specs.Deciding.{normalized_distinct}
use Rattle.track_normalize.proofs.Kept.{ranked-in, refusals-in, kept-are}
use Rattle.track_normalize.proofs.deciding.decide.Goals as goal

pub list_standing-requires : goal.list_standing-requires
list_standing-requires c = ranked-in c.as_slice-fixes.result.now _ c.outcome-decided.ensures c.deref.result.now c.deref.ensures.0

pub list_refused-requires : goal.list_refused-requires
list_refused-requires c = refusals-in c.as_slice-fixes.result.now _ c.outcome-decided.ensures c.deref-2.result.now c.deref-2.ensures.0

pub returns : goal.returns
returns c =
    kept-are c.as_slice-fixes.result.now _ c.outcome-decided.ensures _ _ c.deref.ensures.0 c.deref-2.ensures.0 _ _ c.list_standing.ensures c.list_refused.ensures
    ∙ ap normalized_distinct c.as_slice-fixes.ensures.value
