use Rattle.fix_lines.proofs.Crew.{crew-from-full}
use Rattle.fix_lines.proofs.claims.crew_from_full.Goals as goal

pub returns : goal.returns
returns c = crew-from-full
