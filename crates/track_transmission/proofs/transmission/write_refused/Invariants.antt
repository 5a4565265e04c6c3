use Rattle.track_transmission.specs.Layout.{refused_size}
use Rattle.track_transmission.specs.Bytes.{refused_bytes}
use Rattle.track_transmission.proofs.Writing.{Written}
use Rattle.track_transmission.proofs.transmission.write_refused.Given as goal

abbrev pub invariant-loop-refusal : goal.invariant-loop-refusal
invariant-loop-refusal l = Written refused_size refused_bytes l.all l.initial.out l.refusal-index l.at l.out
