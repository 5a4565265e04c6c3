-- What is claimed of a transmission that is shown: it is the decision of its fixes. The theorem is `shown-is-decided` in proofs/Plainly.
-- Source: docs/REFERENCE.md, 'Register and board', step 3.
use Rattle.std.specs.Prelude.{◌≡◌, false, List}
use Rattle.arithmetic.specs.Agree.{chi_square_in}
use Rattle.decision_rule.specs.Standing.{Relations, decide}
use Rattle.fixes.specs.Fix.{Fix}
use Rattle.fixes.specs.Shown.{agreement, disagrees, within, lower, ahead, shown}
use Rattle.arithmetic.specs.declared.standing.ChiSquare.{ChiSquare}

-- each has standing 0 and is consistent, unverified and not preferred: no fix has more standing than another, and none passed
abbrev pub fix_relations : Relations Fix ChiSquare
fix_relations = record {
  disagrees = disagrees;
  chi_square = λ f g. chi_square_in (agreement f g);
  outstands = λ f g. false;
  passed = λ f. false;
  within = within;
  lower = lower;
  ahead = ahead;
}

abbrev pub ShownIsDecided : Type 0
ShownIsDecided = (fs : List Fix) → shown fs ≡ decide fix_relations fs
