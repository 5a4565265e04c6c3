-- The summaries that are left are the rest of those that are written.
use Rattle.std.proofs.Common.{drop}
use Rattle.tables.specs.Places.{keep_places}
use Rattle.models.specs.Limits.{max_summaries}
use Rattle.models.specs.Summary.{summary_size}
use Rattle.models.specs.Summaries.{no_value}
use Rattle.register_join.specs.Lacks.{is_lacking}
use Rattle.register_join.proofs.Filling.{Filled}
use Rattle.register_join.proofs.lack.write_summaries.Given as goal

abbrev pub invariant-loop-place : goal.invariant-loop-place
invariant-loop-place l =
    Filled summary_size max_summaries (keep_places summary_size (is_lacking l.convicted l.mine) no_value l.theirs) l.out l.count
    (keep_places summary_size (is_lacking l.convicted l.mine) no_value (drop l.place-index l.theirs))
