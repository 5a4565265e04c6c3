-- The bytes of a decision: what is ranked, dominated and refused, in the layout of `Layout`. The unused places of each list are
-- zero: of the indices as they are in the decision, and of the refusals as is said here.
-- Source: docs/REFERENCE.md, 'Answer of a decision'.
use Rattle.std.specs.Prelude.{cond, List, [], ◌∷◌, ◌++◌, ℕ, ◌-◌, ◌*◌, eqb, length, take, replicate}
use Rattle.std.specs.Float.{binary64}
use Rattle.std.specs.Float.Ieee.{to_bits}
use Rattle.octets.specs.Words.{word_bytes}
use Rattle.arithmetic.specs.declared.standing.ChiSquare.{ChiSquare}
use Rattle.arithmetic.specs.declared.standing.ChiSquare.TheVariants.{Measured, Unmeasured}
use Rattle.decision_items.specs.Layout.{max_items}
use Rattle.decision.specs.declared.Refusal.{Refusal}
use Rattle.decision.specs.Arrays.{Refusals, Indices, DecisionArrays}
use Rattle.errors.specs.After.{After, after}
use Rattle.decision_bytes.specs.Layout.{refusal_size}

abbrev pub indices_bytes : Indices → List ℕ
indices_bytes x = x.count ∷ x.list

-- Whether there is a chi-square, and its bits with their lowest byte first, which are all zero where
-- there is none.
unfoldable pub chi_square_bytes : ChiSquare → List ℕ
chi_square_bytes (Measured x) = 1 ∷ word_bytes 8 (to_bits binary64 x)
chi_square_bytes Unmeasured = 0 ∷ word_bytes 8 0

abbrev pub refusal_bytes : Refusal → List ℕ
refusal_bytes x = x.refused ∷ x.kept ∷ cond x.superseded 1 0 ∷ chi_square_bytes x.chi2

unfoldable pub each_bytes : List Refusal → List ℕ
each_bytes [] = []
each_bytes (x ∷ xs) = refusal_bytes x ++ each_bytes xs

abbrev pub counted_bytes : Refusals → List ℕ
counted_bytes x = each_bytes (take x.count x.list)

abbrev pub refusals_bytes : Refusals → List ℕ
refusals_bytes x = x.count ∷ (counted_bytes x ++ replicate (max_items * refusal_size - length (counted_bytes x)) 0)

unfoldable pub answer_bytes : DecisionArrays → List ℕ
answer_bytes d = indices_bytes d.ranked ++ (indices_bytes d.dominated ++ refusals_bytes d.refusals)

-- what is answered, and what the array holds then: the decision, or what was found there, since a refusal changes no lent byte
unfoldable pub hand_out : DecisionArrays → List ℕ → After (List ℕ)
hand_out d found = cond (eqb d.answer 0) (after 0 (answer_bytes d)) (after d.answer found)
