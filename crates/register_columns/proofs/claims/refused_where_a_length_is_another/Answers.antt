use Rattle.register_columns.proofs.Rearranged.{refused-where-other}
use Rattle.register_columns.proofs.claims.refused_where_a_length_is_another.Goals as goal

pub returns : goal.returns
returns c = refused-where-other
