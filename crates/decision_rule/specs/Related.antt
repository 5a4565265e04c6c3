-- How the items in a string of bytes relate (`Standing`), by their indices.
-- Source: docs/REFERENCE.md, 'Decision'.
use Rattle.std.specs.Prelude.{List, ℕ}
use Rattle.arithmetic.specs.Agree.{chi_square_in}
use Rattle.decision_items.specs.Items.{is_passed, item_verified, agreement_at, disagrees_at, within_at, outstands_at, lower_at, ahead_at}
use Rattle.decision_rule.specs.Standing.{Relations}
use Rattle.arithmetic.specs.declared.standing.ChiSquare.{ChiSquare}

abbrev pub item_relations : List ℕ → Relations ℕ ChiSquare
item_relations s = record {
  disagrees = disagrees_at s;
  chi_square = λ i j. chi_square_in (agreement_at s i j);
  outstands = outstands_at s;
  passed = λ i. is_passed (item_verified s i);
  within = within_at s;
  lower = lower_at s;
  ahead = ahead_at s;
}
