use Rattle.record.proofs.Values.{value-whole}
use Rattle.record.proofs.claims.record_is_its_value.Goals as goal

pub returns : goal.returns
returns c = value-whole
