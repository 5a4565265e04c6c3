use Rattle.std.proofs.Common.{refl}
use Rattle.std.proofs.lemmas.Simd.{pick_l_whole}
use Rattle.hashing.specs.Blake2s.{sigma, mix_columns, mix_diagonals, round_by, rounds}
use Rattle.hashing.proofs.rounds.all_rounds.Goals as goal

pub returns : goal.returns
unfolding sigma mix_columns mix_diagonals round_by rounds
returns c = rw (
  c.round.ensures,
  c.round-v-9.ensures,
  c.round-v-8.ensures,
  c.round-v-7.ensures,
  c.round-v-6.ensures,
  c.round-v-5.ensures,
  c.round-v-4.ensures,
  c.round-v-3.ensures,
  c.round-v-2.ensures,
  c.round-v.ensures,
  ← pick_l_whole 0 c.args.m 16 c.fits-m.0,
)
    refl
