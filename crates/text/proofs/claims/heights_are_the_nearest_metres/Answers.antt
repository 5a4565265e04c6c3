use Rattle.text.proofs.Readback.{height-not-minus-zero, height-texts}
use Rattle.text.proofs.Rounding.{metres-are-nearest, only-halves-moved}
use Rattle.text.proofs.claims.heights_are_the_nearest_metres.Goals as goal

pub returns : goal.returns
returns c = record { nearest = metres-are-nearest; only_halves_moved = only-halves-moved; not_minus_zero = height-not-minus-zero; texts = height-texts }
