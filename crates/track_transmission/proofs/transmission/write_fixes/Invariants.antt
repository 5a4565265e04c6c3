use Rattle.track_transmission.specs.Layout.{fix_size}
use Rattle.track_transmission.specs.Bytes.{fix_bytes}
use Rattle.track_transmission.proofs.Writing.{Written}
use Rattle.track_transmission.proofs.transmission.write_fixes.Given as goal

abbrev pub invariant-loop-fix : goal.invariant-loop-fix
invariant-loop-fix l = Written fix_size fix_bytes l.all l.initial.out l.fix-index l.at l.out
