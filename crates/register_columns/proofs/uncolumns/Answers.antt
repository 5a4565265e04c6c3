use Rattle.register_columns.proofs.uncolumns.Goals as goal

pub returns : goal.returns
returns c = c.turn.ensures
