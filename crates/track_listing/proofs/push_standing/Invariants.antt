use Rattle.std.proofs.Common.{◌≡◌, take}
use Rattle.std.specs.Prelude.{flat_map}
use Rattle.text.specs.Texts.{append}
use Rattle.fix_lines.specs.Text.{ranked_text}
use Rattle.track_listing.proofs.push_standing.Given as goal

abbrev pub invariant-loop-k : goal.invariant-loop-k
invariant-loop-k l = l.out ≡ append l.initial.out (flat_map ranked_text (take l.k l.block.fixes))
