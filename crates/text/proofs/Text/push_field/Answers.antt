use Rattle.text.proofs.Appending.{append-then}
use Rattle.text.proofs.Text.push_field.Goals as goal

pub returns : goal.returns
returns g c = append-then _ _ _ _ _ c.push_str.ensures c.append_to.ensures
