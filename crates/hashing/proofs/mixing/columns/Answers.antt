use Rattle.std.proofs.Common.{◌∙◌, ◌++◌, refl}
use Rattle.std.proofs.lemmas.Simd.{pick_l_whole}
use Rattle.hashing.specs.Blake2s.{mix_columns}
use Rattle.hashing.proofs.Lanes.{columns_mixed}
use Rattle.hashing.proofs.mixing.columns.Goals as goal

pub returns : goal.returns
unfolding mix_columns
returns c =
    let m = c.args.m in
    columns_mixed c.args.v c.mix.result (m ++ m) c.mix.ensures ∙ rw (← pick_l_whole 0 m 16 c.fits-m.0) refl
