use Rattle.record_values.proofs.Counted.{had-where-counted}
use Rattle.record_values.proofs.claims.had_where_counted.Goals as goal

pub returns : goal.returns
returns c = had-where-counted
