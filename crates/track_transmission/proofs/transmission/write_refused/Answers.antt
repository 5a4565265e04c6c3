use mathlib.Core.Path.{ap, ◌∙◌}
use mathlib.Core.List.{map}
use native.Mathlib.Omega.{arith}
use Rattle.tables.specs.Places.{table_of}
use Rattle.track_transmission.specs.Layout.{refused_size, max_refused}
use Rattle.track_transmission.specs.Bytes.{refused_bytes}
use Rattle.track_transmission.proofs.Writing.{written-none, written-next, written-table}
use Rattle.track_transmission.proofs.transmission.write_refused.Goals as goal

pub loop-refusal-init : goal.loop-refusal-init
loop-refusal-init c = written-none refused_size refused_bytes c.as_slice-all.result.now _

pub loop-refusal-preserved : goal.loop-refusal-preserved
loop-refusal-preserved c = written-next refused_size refused_bytes _ _ _ _ _ _ _ _ c.loop-refusal.invariant c.loop-refusal-test.true c.refusal-item.is c.put-at.ensures

pub returns : goal.returns
returns c =
    written-table refused_size refused_bytes _ _ max_refused _ _ c.args.out.now _ c.loop-refusal.invariant c.clear.ensures c.requires c.as_slice-all.ensures.fits (omega arith) (omega arith)
    ∙ ap (λ l. table_of refused_size max_refused (map refused_bytes l)) c.as_slice-all.ensures.value
