use Rattle.std.proofs.Common.{◌≡◌, ◌≤◌, ◌++◌, flat_map}
use Rattle.lists.specs.Ordered.{up_to}
use Rattle.rooms_text.specs.Lines.{conviction_line}
use Rattle.rooms_text.specs.Lacking.{if_in}
use Rattle.rooms_text.proofs.lacking.push_convictions.Given as goal

abbrev pub invariant-loop-engine : goal.invariant-loop-engine
invariant-loop-engine l = record {
  most : l.engine ≤ 32;
  text : l.out.items ≡ l.initial.out.items ++ flat_map (if_in l.convicted (conviction_line l.room)) (up_to l.engine);
}
