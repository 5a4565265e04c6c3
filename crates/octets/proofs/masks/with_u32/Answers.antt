use Rattle.octets.proofs.Lookup.{one_shl, or_set}
use Rattle.octets.proofs.masks.with_u32.Goals as goal

pub returns : goal.returns
returns c = rw (one_shl 32 c.args.n c.requires) (or_set c.args.mask c.args.n)
