use Rattle.decision_bytes.proofs.Parts.{parts-stand, sorted-stand}
use Rattle.decision_bytes.proofs.claims.parts_stand.Goals as goal

pub returns : goal.returns
returns c = record { given = parts-stand; any_order = sorted-stand }
