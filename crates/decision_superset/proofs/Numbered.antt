-- The number of a verdict, and what it says was measured.
use mathlib.Core.Path.{◌≡◌, refl}
use mathlib.Core.Bool.{cond, ◌&&◌}
use mathlib.Core.List.{List, [], ◌∷◌}
use Prim.Native.Nat.{ℕ}
use Rattle.lists.proofs.Bools.{by}
use Rattle.record.specs.Formed.{well_formed}
use Rattle.arithmetic.specs.Agree.{agreement_of, agrees_of, chi_square_in}
use Rattle.decision_items.specs.Claimed.{claim_of}
use Rattle.decision_superset.specs.Supersets.{verdict_of, comparison_of, verdict_number, contested_by}

module _ (smaller larger : List ℕ) where
  -- 3 exactly where one of the records is malformed
  pub verdict-number : verdict_number (verdict_of smaller larger).verdict ≡ cond (well_formed smaller && well_formed larger) 0 3
  unfolding verdict_of comparison_of
  verdict-number =
      by (well_formed smaller && well_formed larger)
      (λ p. rw p (by (agrees_of (agreement_of (claim_of smaller) (claim_of larger))) (λ q. rw q refl) (λ q. rw q refl)))
      (λ p. rw p refl)

  -- and it says what was measured exactly where they are records that disagree
  pub verdict-chi-square :
      contested_by (verdict_of smaller larger).verdict
      ≡ (let a = agreement_of (claim_of smaller) (claim_of larger) in cond (well_formed smaller && well_formed larger) (cond (agrees_of a) [] (chi_square_in a ∷ [])) [])
  unfolding verdict_of comparison_of
  verdict-chi-square =
      by (well_formed smaller && well_formed larger)
      (λ p. rw p (by (agrees_of (agreement_of (claim_of smaller) (claim_of larger))) (λ q. rw q refl) (λ q. rw q refl)))
      (λ p. rw p refl)
