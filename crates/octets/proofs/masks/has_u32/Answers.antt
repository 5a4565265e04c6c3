use Rattle.octets.proofs.Lookup.{bit-of}
use Rattle.octets.proofs.masks.has_u32.Goals as goal

pub returns : goal.returns
returns c = bit-of c.args.mask c.args.n
