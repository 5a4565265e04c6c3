use Rattle.record_values.proofs.Failing.{no-fault-exactly-when}
use Rattle.record_values.proofs.claims.no_fault_exactly_when.Goals as goal

pub returns : goal.returns
returns c = no-fault-exactly-when
