use Rattle.std.proofs.Common.{ℕ, arith}
use Rattle.std.proofs.lemmas.Simd.{length-zip2}
use native.Mathlib.Nat.{mod-add-mod}
use Rattle.hashing.proofs.Lanes.{nth-zip2}
use Rattle.hashing.proofs.mixing.add.Goals as goal

pub returns : goal.returns
returns c j h = grind (arith, nth-zip2, length-zip2 {A = ℕ} {B = ℕ} {C = ℕ}, mod-add-mod)
