use Rattle.std.proofs.Common.{◌≡◌, ◌<◌, ◌/◌, ◌^◌, length}
use Rattle.std.specs.Prelude.{IfSome}
use Rattle.std.specs.List.{filter}
use Rattle.lists.specs.Ordered.{up_to}
use Rattle.decision_rule.specs.Places.{has_place}
use Rattle.decision_rule.specs.First.{foremost_of}
use Rattle.decision_rule.specs.Listed as L
use Rattle.decision_rule.proofs.listed.Listed.lowest.Given as goal

abbrev pub invariant-loop-j : goal.invariant-loop-j
invariant-loop-j l = record {
  left : l.left.word ≡ l.fn.of.word / 2 ^ l.j;
  within : IfSome l.best (λ b. b < length l.self.items.now);
  best : l.best ≡ foremost_of (L.relations l.self.items.now).lower (filter (has_place l.fn.of.word) (up_to l.j));
}
