use mathlib.Core.Path.{sym}
use native.Mathlib.Omega.{arith}
use lib.Seq.{length-take-le}
use Rattle.record.specs.Layout.{record_size}
use Rattle.track_transmission.proofs.fix.HeldFix.read.Goals as goal

pub slice_bounds-of-end : goal.slice_bounds-of-end
slice_bounds-of-end c = sym (length-take-le record_size c.args.bytes.now (omega (arith, c.requires.fits)))
