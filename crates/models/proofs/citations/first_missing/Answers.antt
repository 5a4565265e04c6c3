use Rattle.std.proofs.Common.{sym, ap, ◌∙◌, List, ℕ, get_or, ◌≡◌, false}
use Rattle.record.specs.Fields.{models}
use Rattle.models.specs.Models.{state_of}
use Rattle.models.specs.Missing.{is_missing}
use Rattle.models.specs.Answers.{summary_places}
use Rattle.models.proofs.Waiting.{passed}
use Rattle.models.proofs.citations.first_missing.Goals as goal

pub loop-model-preserved : goal.loop-model-preserved
loop-model-preserved c =
    let e = c.models-model-items.ensures.value in
    let there : is_missing (state_of (get_or (models c.args.r.bytes.now) c.loop-model.model-index 0) (summary_places c.args.all)) ≡ false = sym (rw e at c.is_missing.ensures) ∙ c.if-is_missing.false in
    passed (summary_places c.args.all) (models c.args.r.bytes.now) c.loop-model.model-index (rw e at c.loop-model-test.true) c.loop-model.invariant there
