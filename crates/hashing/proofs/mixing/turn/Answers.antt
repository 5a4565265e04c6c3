use Rattle.std.proofs.Common.{ℕ, arith}
use Rattle.std.proofs.lemmas.Simd.{length-zip2, get_or-replicate, length-replicate}
use Rattle.hashing.specs.Blake2s.{rotate_right}
use Rattle.hashing.proofs.Lanes.{nth-zip2}
use Rattle.hashing.proofs.mixing.turn.Goals as goal

pub returns : goal.returns
unfolding rotate_right
returns c j h = grind (arith, nth-zip2, length-zip2 {A = ℕ} {B = ℕ} {C = ℕ}, get_or-replicate {A = ℕ}, length-replicate {A = ℕ})
