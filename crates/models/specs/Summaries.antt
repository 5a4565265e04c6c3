-- Which summaries a memory may hold, and which stay when an engine is convicted (docs/REFERENCE.md, 'Register' among the layouts, and 'Register and board').
use Rattle.std.specs.Prelude.{ℕ, Bool, not, ◌&&◌, List, [], leb, eqb}
use Rattle.octets.specs.Masks.{bit}
use Rattle.record.specs.Layout.{max_model}
use Rattle.models.specs.Summary.{engine_of, model_of}
use Rattle.engines.specs.Limits.{max_engine}

-- a summary within the limits, of an engine that is not convicted
abbrev pub summary_formed : ℕ → List ℕ → Bool
summary_formed c p = leb (engine_of p) max_engine && (leb (model_of p) max_model && not (bit c (engine_of p)))

-- a summary of another engine
abbrev pub is_of_another : ℕ → List ℕ → Bool
is_of_another e p = not (eqb (engine_of p) e)

-- nothing follows a summary's key where that is all of it
abbrev pub no_value : List ℕ → List ℕ
no_value v = []
