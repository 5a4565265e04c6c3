use lib.ListN.{take}
use Rattle.track_arrange.proofs.Ascending.{Ascending}
use Rattle.track_arrange.proofs.leads.ascend.Given as goal

abbrev pub invariant-loop-block : goal.invariant-loop-block
invariant-loop-block l = Ascending l.latest (take l.block-index l.blocks)
