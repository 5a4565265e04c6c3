use mathlib.Core.Path.{refl}
use Prim.Native.Nat.{ℕ}
use native.Mathlib.Omega.{arith}
use lib.ListN.{length-replicate}
use Rattle.tables.specs.Places.{places}
use Rattle.track_transmission.specs.Layout.{transmission_size}
use Rattle.track_transmission.proofs.block.BlockDefault.default.Goals as goal

pub of-requires : goal.of-requires
unfolding places
of-requires c = record { size = length-replicate {A = ℕ} transmission_size 0; few = omega arith; few_refused = omega arith; formed = refl }
