use Rattle.std.proofs.Common.{◌≡◌}
use Rattle.std.specs.Prelude.{not}
use lib.ListN.{drop}
use Rattle.std.specs.List.{list_any}
use Rattle.models.specs.Answers.{summary_places}
use Rattle.track_transmission.specs.Held.{held_in}
use Rattle.track_recheck.specs.Recheck.{stands}
use Rattle.track_recheck.proofs.rechecks.has_stale.Given as goal

abbrev pub invariant-loop-k : goal.invariant-loop-k
invariant-loop-k l = list_any (λ f. not (stands (summary_places l.summaries) f)) (held_in l.block) ≡ list_any (λ f. not (stands (summary_places l.summaries) f)) (drop l.k (held_in l.block))
