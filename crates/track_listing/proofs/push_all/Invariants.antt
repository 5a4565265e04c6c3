use Rattle.std.proofs.Common.{◌≡◌, ◌+◌, drop}
use Rattle.text.specs.Texts.{append}
use Rattle.track_listing.specs.Listing.{held_from}
use Rattle.track_listing.proofs.push_all.Given as goal

-- what is written and what is left are the whole
abbrev pub invariant-loop-i : goal.invariant-loop-i
invariant-loop-i l = append l.out (held_from (l.i + 1) (drop l.i l.blocks)) ≡ append l.initial.out (held_from 1 l.blocks)
