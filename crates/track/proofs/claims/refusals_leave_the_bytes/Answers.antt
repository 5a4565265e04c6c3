use Rattle.track.proofs.Kept.{refusal-leaves, malformed-leaves}
use Rattle.track.proofs.claims.refusals_leave_the_bytes.Goals as goal

pub returns-clause-refused : goal.returns-clause-refused
returns-clause-refused c = refusal-leaves

pub returns-clause-malformed : goal.returns-clause-malformed
returns-clause-malformed c = malformed-leaves
