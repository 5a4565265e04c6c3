use Rattle.record.proofs.Values.{subset-value, tied-value}
use Rattle.record.proofs.claims.relations_are_of_values.Goals as goal

pub returns : goal.returns
returns c = record { subsets = subset-value; ties = tied-value }
