-- What is decided of an item that is alone: it is ranked.
use mathlib.Core.Path.{◌≡◌, refl, sym, ap, ◌∙◌, subst}
use mathlib.Core.Bool.{Bool, false}
use mathlib.Core.List.Memᴰ
use mathlib.Core.List.Permᴰ
use mathlib.Core.List.{List, [], ◌∷◌, ◌++◌, map, Permᴰ}
use Prim.Native.Nat.{ℕ, zero, suc, ◌+◌, ◌*◌, ◌/◌, ◌≤◌}
use native.Mathlib.Omega.{arith}
use lib.ListN.{length, length-append, length-map}
use Rattle.lists.specs.Lists.{insert, sort}
use Rattle.lists.specs.Ordered.{count_from, up_to}
use Rattle.lists.proofs.Lists.{count-length, up_in}
use Rattle.lists.proofs.Orders.{perm-length, perm-mem}
use Rattle.decision_items.specs.Layout.{item_size}
use Rattle.decision_items.specs.Items.{lower_at}
use Rattle.decision_rule.specs.Outcome.{Refused, Outcome}
use Rattle.decision_rule.specs.Related.{item_relations}
use Rattle.decision_rule.specs.Standing.{decide}
use Rattle.decision.specs.Answer.{is_bad, outcome, arrays_of, indices, refusals}
use Rattle.decision.specs.Sorted.{sorted_outcome}
use Rattle.decision.specs.Claims.{listed_in}
use Rattle.decision.specs.Working.{plain_decision}
use Rattle.decision.proofs.Decided.{lawful}
use Rattle.arithmetic.specs.declared.standing.ChiSquare.{ChiSquare}

-- three lists that are at most one item, of which the first is empty only without items
module _ (n : ℕ) (few : n ≤ 1) where
  total : (rs ds : List ℕ) (xs : List (Refused ℕ ChiSquare)) → Permᴰ (rs ++ (ds ++ map (λ x. x.item) xs)) (up_to n) → length rs + (length ds + length xs) ≡ n
  total rs ds xs p =
      let l = perm-length p in
      let a = length-append rs (ds ++ map (λ x. x.item) xs) in
      let b = length-append ds (map (λ x. x.item) xs) in
      let c = length-map xs (λ x. x.item) in
      let d = count-length 0 n in
      omega arith

  only : (rs ds : List ℕ) (xs : List (Refused ℕ ChiSquare)) → Permᴰ (rs ++ (ds ++ map (λ x. x.item) xs)) (up_to n) → (rs ≡ [] → n ≡ 0)
      → (rs ≡ up_to n) × (ds ≡ []) × (xs ≡ [])
  unfolding count_from
  only [] [] [] p e = (ap up_to (sym (e refl)), refl, refl)
  only [] (d ∷ ds) xs p e = let t = total [] (d ∷ ds) xs p in let z = e refl in absurd (omega arith)
  only [] [] (x ∷ xs) p e = let t = total [] [] (x ∷ xs) p in let z = e refl in absurd (omega arith)
  only (r ∷ []) [] [] p e =
      let t = total (r ∷ []) [] [] p in
      let u = up_in n r (perm-mem (Permᴰ.symm p) (Memᴰ.head refl)) in
      let z : r ≡ 0 = omega arith in
      let o : 1 ≡ n = omega arith in
      (ap (λ (k : ℕ). k ∷ []) z ∙ ap up_to o, refl, refl)
  only (r ∷ (q ∷ rs)) ds xs p e = let t = total (r ∷ (q ∷ rs)) ds xs p in absurd (omega arith)
  only (r ∷ []) (d ∷ ds) xs p e = let t = total (r ∷ []) (d ∷ ds) xs p in absurd (omega arith)
  only (r ∷ []) [] (x ∷ xs) p e = let t = total (r ∷ []) [] (x ∷ xs) p in absurd (omega arith)

ranks : (n : ℕ) → n ≤ 1 → (o : Outcome ℕ ChiSquare) → (o.ranked ≡ up_to n) × (o.dominated ≡ []) × (o.refused ≡ []) → plain_decision 0 n ≡ arrays_of o
unfolding plain_decision arrays_of indices refusals count_from
ranks zero h o (a, b, c) = rw (a, b, c) refl
ranks (suc zero) h o (a, b, c) = rw (a, b, c) refl
ranks (suc (suc n)) h o w = absurd (omega arith)

one-sorted : (before : ℕ → ℕ → Bool) (n : ℕ) → n ≤ 1 → up_to n ≡ sort before (up_to n)
unfolding count_from sort insert
one-sorted before zero h = refl
one-sorted before (suc zero) h = refl
one-sorted before (suc (suc n)) h = absurd (omega arith)

module _ (s : List ℕ) (n : ℕ) (long : length s ≡ n * item_size) (few : n ≤ 1) where
  pub ranked-alone : is_bad s ≡ false → ((outcome s).ranked ≡ up_to n) × ((outcome s).dominated ≡ []) × ((outcome s).refused ≡ [])
  ranked-alone e =
      let l = lawful s e in
      let z : length s / item_size ≡ n = omega arith in
      only n few (outcome s).ranked (outcome s).dominated (outcome s).refused (subst (λ (k : ℕ). Permᴰ (listed_in (outcome s)) (up_to k)) z l.each_once) (λ q. sym z ∙ l.some_ranked q)

  pub alone : is_bad s ≡ false → plain_decision 0 n ≡ arrays_of (outcome s)
  alone e = ranks n few (outcome s) (ranked-alone e)

  -- there is nothing to put into order
  pub alone-sorted : outcome s ≡ sorted_outcome s
  alone-sorted =
      let z : length s / item_size ≡ n = omega arith in
      ap (decide (item_relations s)) (ap up_to z ∙ one-sorted (lower_at s) n few ∙ ap (λ (k : ℕ). sort (lower_at s) (up_to k)) (sym z))
