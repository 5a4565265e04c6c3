use Rattle.text.proofs.Readback.{hex-reads-back}
use Rattle.text.proofs.claims.hex_digits_stand_for_their_numbers.Goals as goal

pub returns : goal.returns
returns c = hex-reads-back
