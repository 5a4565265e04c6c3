use Rattle.std.proofs.Common.{◌≡◌, ◌≤◌}
use mathlib.Core.List.{flat_map}
use Rattle.lists.specs.Ordered.{up_to}
use Rattle.text.specs.Texts.{append}
use Rattle.monthly_numbers.specs.Text.{line}
use Rattle.monthly_numbers.specs.Kept.{numbers_in}
use Rattle.monthly_numbers.proofs.texts.push_lines.Given as goal

abbrev pub invariant-loop-number : goal.invariant-loop-number
invariant-loop-number l = record {
  most : l.number ≤ 32;
  text : l.out ≡ append l.initial.out (flat_map (λ e. line e (numbers_in e l.endings)) (up_to l.number));
}
