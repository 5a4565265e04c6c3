use Rattle.std.proofs.Common.{◌≡◌, ℕ, ◌<◌, false}
use Rattle.fixes.specs.Items.{fix_at}
use Rattle.track_transmission.specs.Held.{held_in, is_of}
use Rattle.track_merge.proofs.first_identified.Given as goal

abbrev pub invariant-loop-i : goal.invariant-loop-i
invariant-loop-i l = (k : ℕ) → k < l.i → is_of l.fn.fix (fix_at (held_in l.block) k) ≡ false
