use Rattle.register_join.proofs.Delivered.{what-is-lacking}
use Rattle.register_join.proofs.Claimed.{swapped, late-as-well, register-is-its-calls}
use Rattle.register_join.proofs.claims.what_is_lacking.Goals as goal

pub returns-clause-lacking : goal.returns-clause-lacking
returns-clause-lacking c = what-is-lacking

pub returns-clause-swapped : goal.returns-clause-swapped
returns-clause-swapped c = swapped

pub returns-clause-late : goal.returns-clause-late
returns-clause-late c = late-as-well

pub returns-clause-calls : goal.returns-clause-calls
returns-clause-calls c = register-is-its-calls
