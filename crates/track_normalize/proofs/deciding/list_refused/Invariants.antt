use mathlib.Core.Path.{◌≡◌}
use mathlib.Core.List.{map}
use lib.ListN.{take, drop}
use Rattle.lists.specs.Lists.{sort}
use Rattle.track_transmission.specs.Layout.{max_refused}
use Rattle.track_normalize.specs.Deciding.{named_refused, lower_held}
use Rattle.track_normalize.proofs.deciding.list_refused.Given as goal

abbrev pub invariant-loop-k : goal.invariant-loop-k
invariant-loop-k l = l.refused.items ≡ take max_refused (sort lower_held (map (named_refused l.fixes) (drop l.k l.refusals)))
