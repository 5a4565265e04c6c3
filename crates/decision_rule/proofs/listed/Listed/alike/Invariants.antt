use Rattle.std.proofs.Common.{◌≡◌, ◌/◌, ◌^◌, ◌&&◌}
use Rattle.decision_rule.specs.Places.{has_place, set_of}
use Rattle.decision_rule.specs.Listed as L
use Rattle.decision_rule.proofs.listed.Listed.alike.Given as goal

abbrev pub invariant-loop-j : goal.invariant-loop-j
invariant-loop-j l = record {
  left : l.left.word ≡ l.fn.of.word / 2 ^ l.j;
  some : l.some.word ≡ set_of (λ j. has_place l.fn.of.word j && L.have_same_inputs l.self.items.now j l.i) l.j;
}
