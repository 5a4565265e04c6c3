use Rattle.text.proofs.Readback.{decimal-reads-back, decimal-no-leading-zero, signed-no-minus-zero, decimal-width}
use Rattle.text.proofs.claims.decimals_stand_for_their_numbers.Goals as goal

pub returns : goal.returns
returns c = record { reads_back = decimal-reads-back; no_leading_zero = decimal-no-leading-zero; no_minus_zero = signed-no-minus-zero; width = decimal-width }
