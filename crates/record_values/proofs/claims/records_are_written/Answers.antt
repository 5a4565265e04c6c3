use Rattle.record_values.proofs.ReadBack.{records-are-written}
use Rattle.record_values.proofs.Refused.{refused-exactly-where}
use Rattle.record_values.proofs.claims.records_are_written.Goals as goal

pub returns-clause-written : goal.returns-clause-written
returns-clause-written c = records-are-written

pub returns-clause-refused : goal.returns-clause-refused
returns-clause-refused c = refused-exactly-where
