use Rattle.std.proofs.Common.{◌≡◌, ℕ, drop}
use Rattle.std.specs.List.{find}
use Rattle.record.specs.Fields.{models}
use Rattle.models.specs.Models.{state_of}
use Rattle.models.specs.Missing.{is_missing, first_missing}
use Rattle.models.specs.Answers.{summary_places}
use Rattle.models.proofs.citations.first_missing.Given as goal

abbrev pub invariant-loop-model : goal.invariant-loop-model
invariant-loop-model l = first_missing (summary_places l.fn.all) l.fn.r.bytes.now ≡ find (λ m. is_missing (state_of m (summary_places l.fn.all))) (drop l.model-index (models l.fn.r.bytes.now))
