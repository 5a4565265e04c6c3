use Rattle.std.proofs.Common.{ℕ, refl}
use Rattle.std.proofs.lemmas.Simd.{get_or-replicate}
use Rattle.hashing.specs.Blake2s.{add_word, turn_word, half_mix}
use Rattle.hashing.proofs.mixing.half_mix.Goals as goal

pub returns : goal.returns
unfolding add_word turn_word half_mix
returns c j h = rw (c.turn-b.ensures j h, c.add-c.ensures j h, get_or-replicate {A = ℕ} 4 j 0 0 h, c.turn-d.ensures j h, c.add-a.ensures j h) refl
