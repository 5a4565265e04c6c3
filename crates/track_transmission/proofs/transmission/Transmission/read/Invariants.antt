use mathlib.Core.Path.{◌≡◌}
use mathlib.Core.List.{[], map}
use lib.ListN.{take}
use Rattle.track_transmission.specs.Bytes.{fix_in, refused_in}
use Rattle.track_transmission.proofs.transmission.Transmission.read.Given as goal

abbrev pub invariant-loop-fix : goal.invariant-loop-fix
invariant-loop-fix l = (l.held-inside.fixes.items ≡ map fix_in (take l.fix-index l.standing)) × (l.held-inside.refused.items ≡ [])

abbrev pub invariant-loop-refusal : goal.invariant-loop-refusal
invariant-loop-refusal l = (l.held-inside.fixes.items ≡ l.fn.block.fixes) × (l.held-inside.refused.items ≡ map refused_in (take l.refusal-index l.refused))
