use Rattle.register_join.proofs.Delivered.{convictions-pass-alone, no-room-made}
use Rattle.register_join.proofs.claims.what_convictions_do.Goals as goal

pub returns-clause-alone : goal.returns-clause-alone
returns-clause-alone c = convictions-pass-alone

pub returns-clause-no_room : goal.returns-clause-no_room
returns-clause-no_room c = no-room-made
