-- The measure is the number of places without a mark: a visit marks one that had none, and then no mark is taken away.
use Rattle.std.proofs.Common.{◌-◌, ◌≡◌, length}
use Rattle.board_transmissions.specs.Walk as W
use Rattle.board_transmissions.specs.Walk.{unmarked, each}
use Rattle.board_transmissions.proofs.Labelling.{Progress}
use Rattle.board_transmissions.specs.Links.{link_at}
use Rattle.board_transmissions.proofs.+visit.Given as goal

abbrev pub decreases-visit : goal.decreases-visit
decreases-visit l = unmarked l.marks.now

abbrev pub invariant-loop-j : goal.invariant-loop-j
invariant-loop-j l =
    let n = length l.fixes in
    let link = link_at l.fixes in
    let v = W.visit link n (unmarked l.initial.marks) in
    record {
      progress : Progress l.s l.initial.marks l.marks l.initial.labels l.labels;
      left : each v (link l.i) l.initial.marks 0 n ≡ each v (link l.i) l.marks l.j (n - l.j);
    }
