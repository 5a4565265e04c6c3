use Rattle.std.proofs.Common.{[], ◌∷◌}
use Rattle.text.proofs.Appending.{append-then}
use Rattle.record.proofs.fields.push_height.Goals as goal

pub returns-in-Some : goal.returns-in-Some
returns-in-Some c = rw c.in-Some.is (append-then _ _ _ (1 ∷ []) _ c.push_byte.ensures c.push_signed.ensures)
