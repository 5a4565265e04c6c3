use Rattle.std.proofs.Common.{arith, sym, length-take-le}
use Rattle.test_hashes.proofs.print_lengths.Goals as goal

pub slice_bounds-print_digest-end-2 : goal.slice_bounds-print_digest-end-2
slice_bounds-print_digest-end-2 g c = sym (length-take-le 1000 c.args.s.now (omega arith))
