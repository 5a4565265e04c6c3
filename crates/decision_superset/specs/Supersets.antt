-- What comparing a superset with the smaller fix that it would replace finds (the Rust's
-- `contest::superset_verdict`): the enum keeps its chi-square, a number or none, in the disagreeing case; the added tags stand beside it.
-- Source: docs/REFERENCE.md, 'Superset verdict'.
use Rattle.std.specs.Prelude.{cond, ◌&&◌, List, [], ◌∷◌, ℕ}
use Rattle.record.specs.Formed.{well_formed}
use Rattle.record.specs.Added.{added_tags}
use Rattle.arithmetic.specs.Agree.{agreement_of, agrees_of, chi_square_in}
use Rattle.arithmetic.specs.declared.standing.ChiSquare.{ChiSquare}
use Rattle.decision_items.specs.Claimed.{claim_of}
use Rattle.decision_superset.specs.declared.SupersetVerdict.{SupersetVerdict}
use Rattle.decision_superset.specs.declared.SupersetVerdict.TheVariants.{Malformed, Agrees, Contested}

-- a verdict, and beside it the tags that a contested superset added
pub record Compared : Type 0 where
  pub verdict : SupersetVerdict
  pub added : List ℕ

-- a verdict that names no tags
abbrev pub without_tags : SupersetVerdict → Compared
without_tags v = record { verdict = v; added = [] }

-- The number and the values of each case: a malformed record is 3, as where one is reported; the other two cases are answers, and a
-- contested one has what was measured.
abbrev pub verdict_number : SupersetVerdict → ℕ
verdict_number Malformed = 3
verdict_number Agrees = 0
verdict_number (Contested chi2) = 0

abbrev pub contested_by : SupersetVerdict → List ChiSquare
contested_by Malformed = []
contested_by Agrees = []
contested_by (Contested chi2) = chi2 ∷ []

-- of two records
unfoldable pub comparison_of : List ℕ → List ℕ → Compared
comparison_of smaller larger =
    let a = agreement_of (claim_of smaller) (claim_of larger) in
    cond (agrees_of a) (without_tags Agrees) (record { verdict = Contested (chi_square_in a); added = added_tags smaller larger })

-- of any bytes
unfoldable pub verdict_of : List ℕ → List ℕ → Compared
verdict_of smaller larger = cond (well_formed smaller && well_formed larger) (comparison_of smaller larger) (without_tags Malformed)
