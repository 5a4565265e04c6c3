use mathlib.Core.Path.{◌≡◌}
use lib.ListN.{drop}
use Rattle.std.specs.List.{list_any}
use Rattle.record.specs.Relations.{tied}
use Rattle.track_transmission.specs.Held.{held_in}
use Rattle.track_transmission.proofs.block.Block.ties.Given as goal

abbrev pub invariant-loop-k : goal.invariant-loop-k
invariant-loop-k l = list_any (λ f. tied f.record_bytes l.r.bytes.now) (held_in l.self) ≡ list_any (λ f. tied f.record_bytes l.r.bytes.now) (drop l.k (held_in l.self))
