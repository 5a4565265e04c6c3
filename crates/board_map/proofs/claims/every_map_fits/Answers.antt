use Rattle.std.proofs.Common.{arith}
use Rattle.board_picture.specs.Picture.{picture}
use Rattle.register.specs.Memory.{decode}
use Rattle.board_map.specs.Map.{map_of}
use Rattle.board_map.specs.Claims.{points_shown}
use Rattle.board_map.proofs.Lengths.{map-fits, map-long, map-narrow}
use Rattle.board_map.proofs.Held.{all-fit, all-within}
use Rattle.board_map.proofs.claims.every_map_fits.Goals as goal

pub returns : goal.returns
unfolding map_of
returns c = record {
  least = λ m. map-long (points_shown (decode m));
  greatest = λ m b w. map-narrow (picture (decode m).summaries (decode m).records) (λ p k. (all-fit m b p k, all-within m p k));
  no_refusal = λ m. let l = map-long (points_shown (decode m)) in omega arith;
  fits = λ s. map-fits (picture s.summaries s.records);
}
