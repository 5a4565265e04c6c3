use Rattle.std.proofs.Common.{◌∙◌, ◌++◌, refl}
use Rattle.std.proofs.lemmas.Simd.{pick_l_whole}
use Rattle.hashing.specs.Blake2s.{mix_diagonals}
use Rattle.hashing.proofs.Lanes.{diagonals_mixed}
use Rattle.hashing.proofs.mixing.diagonals.Goals as goal

pub returns : goal.returns
unfolding mix_diagonals
returns c =
    let m = c.args.m in
    rw (c.left_1-2.ensures, c.left_3-2.ensures, c.left_2-2.ensures)
    (diagonals_mixed c.args.v c.mix.result (m ++ m) (rw (c.left_3.ensures, c.left_1.ensures, c.left_2.ensures) at c.mix.ensures)
    ∙ rw (← pick_l_whole 0 m 16 c.fits-m.0) refl)
