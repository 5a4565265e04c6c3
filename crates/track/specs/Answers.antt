-- The numbers of what a report is answered (docs/REFERENCE.md, 'Answers').
use Rattle.std.specs.Prelude.{ℕ, Result, Ok, Err}
use Rattle.errors.specs.Errors.{error_number}
use Rattle.errors.specs.declared.Error.{Error}
use Rattle.track_merge.specs.Merged.{merged_number}
use Rattle.track.specs.declared.reports.Reported.{Reported}
use Rattle.track.specs.declared.reports.Reported.TheVariants.{Merged, Waiting}

-- it is merged, or it waits
abbrev pub taken_number : Reported → ℕ
taken_number (Merged x) = merged_number x
taken_number Waiting = 24

-- what became of the fix, or why the record is refused
abbrev pub reported_number : Result Reported Error → ℕ
reported_number (Ok x) = taken_number x
reported_number (Err e) = error_number e
