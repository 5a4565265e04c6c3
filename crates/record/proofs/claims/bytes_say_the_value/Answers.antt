use Rattle.record.proofs.Written.{value-of-bytes}
use Rattle.record.proofs.claims.bytes_say_the_value.Goals as goal

pub returns : goal.returns
returns c = value-of-bytes
