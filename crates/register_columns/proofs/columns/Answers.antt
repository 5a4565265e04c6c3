use Rattle.register_columns.proofs.columns.Goals as goal

pub returns : goal.returns
returns c = c.turn.ensures
