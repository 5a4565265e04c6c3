use Rattle.register_columns.proofs.Rearranged.{undo-each-other}
use Rattle.register_columns.proofs.claims.each_undoes_the_other.Goals as goal

pub returns : goal.returns
returns c = undo-each-other
