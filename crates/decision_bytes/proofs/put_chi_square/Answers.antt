use mathlib.Core.Path.{refl}
use Rattle.decision_bytes.proofs.Parts.{number_put, none-put}
use Rattle.decision_bytes.proofs.put_chi_square.Goals as goal

pub returns-in-Measured : goal.returns-in-Measured
returns-in-Measured c =
    number_put c.put_measured.ensures c.in-Measured.is refl c.to_bits.ensures

pub returns-in-Unmeasured : goal.returns-in-Unmeasured
returns-in-Unmeasured c =
    none-put c.put_measured-in-Unmeasured.ensures c.in-Unmeasured.is refl refl
