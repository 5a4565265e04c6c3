use Rattle.fixes.proofs.Plainly.{shown-is-decided}
use Rattle.fixes.proofs.claims.shown_is_decided.Goals as goal

pub returns : goal.returns
returns c = shown-is-decided
