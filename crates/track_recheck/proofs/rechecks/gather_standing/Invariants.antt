use Prim.Native.Nat.{◌≤◌}
use mathlib.Core.Path.{◌≡◌}
use lib.ListN.{length}
use Rattle.models.specs.Answers.{summary_places}
use Rattle.track_transmission.specs.Held.{held_in}
use Rattle.track_recheck.specs.Recheck.{stands}
use Rattle.track_recheck.proofs.Standing.{left_of}
use Rattle.track_recheck.proofs.rechecks.gather_standing.Given as goal

abbrev pub invariant-loop-k : goal.invariant-loop-k
invariant-loop-k l = record {
  left : l.left.items ≡ left_of (stands (summary_places l.summaries)) (held_in l.block) l.k;
  few : length l.left.items ≤ l.k;
}
