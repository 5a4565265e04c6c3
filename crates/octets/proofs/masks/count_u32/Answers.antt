use Rattle.octets.proofs.Lookup.{count_ones}
use Rattle.octets.proofs.masks.count_u32.Goals as goal

pub returns : goal.returns
returns c = count_ones 32 c.args.mask c.ranges.mask.fits
