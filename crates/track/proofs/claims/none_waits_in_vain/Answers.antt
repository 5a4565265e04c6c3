use Rattle.track.proofs.Shelved.{none-waits-in-vain, settles-none}
use Rattle.track.proofs.claims.none_waits_in_vain.Goals as goal

pub returns-clause-none : goal.returns-clause-none
returns-clause-none c = none-waits-in-vain

pub returns-clause-settling : goal.returns-clause-settling
returns-clause-settling c = settles-none
