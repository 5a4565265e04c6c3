-- A fix that waits beside a track: a record that cites a model without a summary (docs/REFERENCE.md, 'Track and listing').
use Rattle.std.specs.Prelude.{ℕ, Bool, not, ◌&&◌, List, leb, eqb}
use Rattle.octets.specs.Masks.{bit}
use Rattle.engines.specs.Limits.{max_engine}
use Rattle.record.specs.Fields.{models}
use Rattle.record.specs.Formed.{well_formed}
use Rattle.record.specs.Relations.{member}
use Rattle.models.specs.Models.{state_of}
use Rattle.models.specs.Missing.{is_missing}

-- the model that it waits for, the engine that reported it, and the record
pub record Waiting : Type 0 where
  pub model : ℕ
  pub engine : ℕ
  pub record_bytes : List ℕ

abbrev pub waits_for : ℕ → Waiting → Bool
waits_for model w = eqb w.model model

abbrev pub is_reported_by : ℕ → Waiting → Bool
is_reported_by e w = eqb w.engine e

-- what may wait where these engines are convicted and these summaries held: a record of an engine that is not convicted, for a model that it cites and that has no
-- summary
abbrev pub may_wait : ℕ → List (List ℕ) → Waiting → Bool
may_wait convicted ss w =
    well_formed w.record_bytes
    && (leb w.engine max_engine
    && (not (bit convicted w.engine)
    && (member w.model (models w.record_bytes)
    && is_missing (state_of w.model ss))))
