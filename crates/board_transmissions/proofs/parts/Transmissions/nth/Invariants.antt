use mathlib.Core.Path.{◌≡◌}
use Rattle.lists.specs.Range.{filt}
use Rattle.board_transmissions.specs.Links.{has_label}
use Rattle.board_transmissions.proofs.parts.Transmissions.nth.Given as goal

abbrev pub invariant-loop-j : goal.invariant-loop-j
invariant-loop-j l = l.members.items ≡ filt (has_label l.self-inside.labels l.first) 0 l.j
