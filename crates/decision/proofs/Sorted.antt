-- What is decided of the items in ascending identity is what is decided of them as they were given, with the dominated and the refusals in ascending identity:
-- so the code sorts two lists.
use Rattle.std.proofs.Common.{◌≡◌, ℕ, ◌/◌, Bool, true, false, refl, arith, subst, length}
use mathlib.Core.List.{List, [], ◌∷◌, map, Memᴰ, Permᴰ}
use lib.Dec.{ltb, eqb}
use borrow.Author.Tests.{ltb-false, eqb-true, eqb-false, lt-ltb, le-ltb}
use Rattle.std.specs.Cmp.{IsStrictWeakOrder}
use Rattle.std.specs.Cmp.Lexicographic.{slice_cmp}
use Rattle.std.specs.Ordering.{is_lt, nat_cmp}
use Rattle.std.specs.List.Sorted.{IsPermutation, IsSortedBy}
use Rattle.std.proofs.lemmas.Cmp.{nat_list_cmp_total}
use Rattle.std.proofs.lemmas.List.MinMax.{ranks_by}
use Rattle.lists.proofs.Bools.{by}
use Rattle.octets.specs.Order.{is_before}
use Rattle.lists.specs.Ordered.{up_to, Ascending}
use Rattle.lists.proofs.Lists.{sort-perm, sort-in}
use Rattle.lists.proofs.Orders.{perm-map}
use Rattle.lists.proofs.Sorting.{Strict, strict-sub, sort-ascends, ascending-map}
use Rattle.lists.proofs.Standard.{sorted_is}
use Rattle.decision_items.specs.Layout.{item_size}
use Rattle.decision_items.specs.Items.{item_identity, lower_at, ahead_at}
use Rattle.decision_rule.specs.Related.{item_relations}
use Rattle.decision.specs.declared.Refusal.{Refusal}
use Rattle.decision.specs.Answer.{is_bad, outcome, refusal}
use Rattle.decision.specs.Sorted.{by_identity, sorted_outcome}
use Rattle.decision.proofs.Laws.{same-ranked, same-dominated, same-refused, dominated-ascend, refused-ascend}
use Rattle.decision.proofs.Passed.{good-items}
use Rattle.decision.proofs.Sound.{by-identity, by_rank, items-apart}

-- std's order of bytes is ours
pub std-order : (a b : List ℕ) → is_lt (slice_cmp nat_cmp a b) ≡ is_before a b
unfolding is_before
std-order [] [] = refl
std-order [] (y ∷ b) = refl
std-order (x ∷ a) [] = refl
std-order (x ∷ a) (y ∷ b) =
    by (ltb x y)
    (λ p. rw p refl)
    (λ p. by (eqb x y)
    (λ e. let z = eqb-true x y e in let q : ltb y x ≡ false = le-ltb y x (omega arith) in rw (p, q, e) (std-order a b))
    (λ e. let n = ltb-false x y p in let z = eqb-false x y e in let q : ltb y x ≡ true = lt-ltb y x (omega (arith, n, z)) in rw (p, q, e) refl))

module _ (s : List ℕ) (good : is_bad s ≡ false) where
  abbrev n : ℕ
  n = length s / item_size

  lower : Strict (lower_at s) (up_to n)
  lower = by-identity s n (good-items s good)

  pub same-items : Permᴰ (by_identity s) (up_to n)
  same-items = sort-perm (lower_at s) (up_to n)

  pub identities-ascend : Ascending (lower_at s) (by_identity s)
  identities-ascend = sort-ascends (lower_at s) lower.trans (up_to n) (items-apart s n (good-items s good) lower)

  member : (i : ℕ) → Memᴰ i (by_identity s) → Memᴰ i (up_to n)
  member i m = sort-in (lower_at s) (up_to n) i m

  sorted-lower : Strict (lower_at s) (by_identity s)
  sorted-lower = strict-sub (lower_at s) member lower

  pub ranked-stay : (sorted_outcome s).ranked ≡ (outcome s).ranked
  ranked-stay =
      same-ranked (item_relations s) (by_identity s) (up_to n) same-items sorted-lower
      (strict-sub (ahead_at s) member (by_rank s n (good-items s good)))

  pub dominated-are : Permᴰ (sorted_outcome s).dominated (outcome s).dominated
  dominated-are = same-dominated (item_relations s) (by_identity s) (up_to n) same-items sorted-lower

  pub refused-are : Permᴰ (sorted_outcome s).refused (outcome s).refused
  refused-are = same-refused (item_relations s) (by_identity s) (up_to n) same-items sorted-lower

  -- ---- what the code sorts, by the identities of what it sorts

  module _ {X : Type 0} (place : X → ℕ) where
    abbrev pub lower-of : X → X → Bool
    lower-of x y = lower_at s (place x) (place y)

    pub identities-compare : IsStrictWeakOrder lower-of
    identities-compare =
        subst (λ (b : X → X → Bool). IsStrictWeakOrder b) (λ i x y. std-order (item_identity s (place x)) (item_identity s (place y)) i)
        (ranks_by nat_list_cmp_total (λ (x : X). item_identity s (place x)))

    -- what is sorted by them, where its members are those of a list that ascends
    sorted-as : {l k m : List X} → IsPermutation l k → IsSortedBy lower-of k → Permᴰ m l → Ascending lower-of m → k ≡ m
    sorted-as p up q a = sorted_is lower-of (λ x. lower.irrefl (place x)) (λ x y z. lower.trans (place x) (place y) (place z)) p up q a

  pub dominated-sorted : {k : List ℕ} → IsPermutation (outcome s).dominated k → IsSortedBy (lower-of (λ i. i)) k → k ≡ (sorted_outcome s).dominated
  dominated-sorted p up = sorted-as (λ i. i) p up dominated-are (dominated-ascend (item_relations s) (by_identity s) identities-ascend)

  pub refused-sorted : {k : List Refusal} → IsPermutation (map refusal (outcome s).refused) k → IsSortedBy (lower-of (λ x. x.refused)) k → k ≡ map refusal (sorted_outcome s).refused
  refused-sorted p up =
      sorted-as (λ x. x.refused) p up (perm-map refusal refused-are)
      (ascending-map refusal (λ x y. lower_at s x.refused y.refused) (sorted_outcome s).refused (refused-ascend (item_relations s) (by_identity s) identities-ascend))
