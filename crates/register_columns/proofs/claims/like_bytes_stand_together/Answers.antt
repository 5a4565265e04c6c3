use Rattle.register_columns.proofs.Rearranged.{stands-together, head_stays}
use Rattle.register_columns.proofs.claims.like_bytes_stand_together.Goals as goal

pub returns : goal.returns
returns c = record { places = stands-together; head = head_stays }
