-- What is decided is what the Rust decides, but for the numbers of what is unmeasurable.
use mathlib.Core.Path.{◌≡◌, refl, sym, ap, ◌∙◌}
use mathlib.Core.Bool.{Bool, not, ◌&&◌}
use mathlib.Core.List.{List, [], ◌∷◌, map}
use Prim.Native.Nat.{ℕ, ◌/◌}
use lib.ListN.{length}
use Rattle.lists.specs.Ordered.{up_to}
use Rattle.arithmetic.specs.Agree.{agreement_of, chi_square_in}
use Rattle.arithmetic.specs.Answers.{measure_in}
use Rattle.arithmetic.specs.Before.{agreement_before}
use Rattle.arithmetic.proofs.Outcomes.{agrees-as-before, numbers-as-before, unmeasurable-was-infinite}
use Rattle.arithmetic.specs.declared.standing.Claimed.{Claimed}
use Rattle.arithmetic.specs.declared.standing.Measure.{Measure}
use Rattle.arithmetic.specs.declared.standing.Agreement.{Agreement}
use Rattle.arithmetic.specs.declared.standing.Agreement.TheVariants.{Inside, Outside, Unmeasurable}
use Rattle.decision_items.specs.Layout.{item_size}
use Rattle.decision_items.specs.Claimed.{claim_of}
use Rattle.decision_items.specs.Items.{item_record, item_consistent, subset_at, agreement_at, disagrees_at}
use Rattle.decision_rule.specs.Standing.{decide}
use Rattle.decision_rule.specs.Related.{item_relations}
use Rattle.decision.specs.Answer.{outcome}
use Rattle.decision.specs.Before.{relations_before, number_before, refused_before, DecidedAsBefore}
use Rattle.decision.proofs.Carried.{Alike, carried}

-- the number that an agreement has now is that of before
number-as-before : (smaller larger : Claimed) → (agreement_before smaller larger).chi2 ≡ number_before (chi_square_in (agreement_of smaller larger))
unfolding chi_square_in measure_in
number-as-before smaller larger = go (agreement_of smaller larger) refl
  where
    go : (a : Agreement) → agreement_of smaller larger ≡ a → (agreement_before smaller larger).chi2 ≡ number_before (chi_square_in a)
    go (Inside m) e = ap (λ (n : Measure). n.chi2) (numbers-as-before smaller larger m (ap measure_in e))
    go (Outside m) e = ap (λ (n : Measure). n.chi2) (numbers-as-before smaller larger m (ap measure_in e))
    go Unmeasurable e = (unmeasurable-was-infinite smaller larger).0 e

module _ (s : List ℕ) where
  same-disagrees : (i j : ℕ) → (relations_before s).disagrees i j ≡ (item_relations s).disagrees i j
  unfolding disagrees_at agreement_at
  same-disagrees i j =
      ap (λ (b : Bool). item_consistent s j && (subset_at s j i && not b)) (sym (agrees-as-before (claim_of (item_record s j)) (claim_of (item_record s i))))

  same_number : (i j : ℕ) → (relations_before s).chi_square i j ≡ number_before ((item_relations s).chi_square i j)
  unfolding agreement_at
  same_number i j = number-as-before (claim_of (item_record s j)) (claim_of (item_record s i))

  alike : (l : List ℕ) → Alike (item_relations s) (relations_before s) (λ i. i) number_before l
  alike l = record {
    disagrees = λ i j m n. same-disagrees i j;
    chi_square = λ i j m n. same_number i j;
    outstands = λ i j m n. refl;
    passed = λ i m. refl;
    within = λ i j m n. refl;
    lower = λ i j m n. refl;
    ahead = λ i j m n. refl;
  }

pub map_same : {A : Type 0} (l : List A) → map (λ x. x) l ≡ l
map_same [] = refl
map_same (x ∷ l) = ap (λ k. x ∷ k) (map_same l)

pub decided-as-before : DecidedAsBefore
decided-as-before s =
    let all = up_to (length s / item_size) in
    let o = outcome s in
    let c = ap (decide (relations_before s)) (sym (map_same all)) ∙ carried (item_relations s) (relations_before s) (λ i. i) number_before all (alike s all) in
    c ∙ (λ k. record { ranked = map_same o.ranked k; dominated = map_same o.dominated k; refused = map refused_before o.refused })
