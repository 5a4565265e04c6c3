use Rattle.track.proofs.Early.{early-as-late}
use Rattle.track.proofs.claims.early_fixes_are_as_late_ones.Goals as goal

pub returns : goal.returns
returns c = early-as-late
