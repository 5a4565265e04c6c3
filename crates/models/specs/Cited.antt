-- No claim rests on these definitions: they say what a look at a model that a record cites answers.
use Rattle.std.specs.Prelude.{ℕ, cond, List, eqb, Option, Some, None}
use Rattle.models.specs.Summary.{summary_inputs}
use Rattle.models.specs.Models.{State, missing, agreed, disputed}
use Rattle.models.specs.declared.summaries.Summary.{Summary}

-- the inputs of a model in this state, if a record of spec s that cites it may count
abbrev pub model_cited : ℕ → State → Option (List ℕ)
model_cited s missing = None
model_cited s (agreed x h) = cond (eqb x s) (Some h) None
model_cited s disputed = None

-- those of the summary that was found
abbrev pub inputs_found : Option Summary → Option (List ℕ)
inputs_found (Some p) = Some (summary_inputs p.bytes.now)
inputs_found None = None
