use Rattle.std.proofs.Common.{ℕ, ◌<◌, List, [], get_or, subst, rules, refl}
use Rattle.models.specs.Summary.{model_of}
use Rattle.track_shelf.specs.Steps.{Marks}
use Rattle.track_shelf.proofs.Marks.{none-marked, marked, all-marked}
use Rattle.track_shelf.proofs.stated.Stated.of.Goals as goal

pub loop-summary-init : goal.loop-summary-init
loop-summary-init c = none-marked _

pub loop-summary-preserved : goal.loop-summary-preserved
loop-summary-preserved c =
    let ps = c.places_of-summaries.result.now in
    let i = c.loop-summary.summary-index in
    let byte : model_of (get_or ps i []) < 256 = search rules in
    marked ps i c.loop-summary.has (model_of (get_or ps i [])) c.loop-summary-test.true refl byte c.loop-summary.invariant

pub invariant_of-result : goal.invariant_of-result
invariant_of-result c =
    subst (λ (ps : List (List ℕ)). Marks ps c.loop-summary.has) c.places_of-summaries.ensures (all-marked c.places_of-summaries.result.now c.loop-summary.summary-index c.loop-summary.has c.loop-summary-test.false c.loop-summary.invariant)
