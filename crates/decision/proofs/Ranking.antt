-- A list that is sorted by putting one member after another in behind those that come before it, from the last to the first.
use Rattle.std.proofs.Common.{◌≡◌, ℕ, zero, suc, ◌+◌, ◌-◌, ◌≤◌, ◌<◌, Bool, true, false, length, get_or, refl, ap, ◌∙◌, arith}
use mathlib.Core.List.{List, [], ◌∷◌, Memᴰ}
use Rattle.std.specs.List as L
use Rattle.std.specs.List.{prefix_len, filter}
use Rattle.lists.specs.Lists.{insert, sort}
use Rattle.lists.specs.Ordered.{count_from}
use Rattle.lists.proofs.Bools.{by}
use Rattle.lists.proofs.Lists.{filter-in, filter-few, count-in, count-length, sort-in, sort-perm}
use Rattle.lists.proofs.Orders.{perm-length}
use Rattle.lists.proofs.Searches.{count_turn}
use Rattle.decision.specs.Working.{MembersBelow}

module _ {A : Type 0} (before : A → A → Bool) (x : A) where
  -- x put in behind those that come before it
  pub put-in : (l : List A) → L.insert l (prefix_len (λ y. before y x) l) x ≡ insert before x l
  unfolding insert
  put-in [] = refl
  put-in (y ∷ l) =
      let e : 1 + prefix_len (λ z. before z x) l ≡ suc (prefix_len (λ z. before z x) l) = omega arith in
      by (before y x) (λ t. rw (t, e) (ap (λ (k : List A). y ∷ k) (put-in l))) (λ t. rw t refl)

-- what stands at a place is a member
pub at-in : (d : ℕ) (l : List ℕ) (i : ℕ) → i < length l → Memᴰ (get_or l i d) l
at-in d [] i h = absurd (omega arith)
at-in d (x ∷ l) zero h = Memᴰ.head refl
at-in d (x ∷ l) (suc i) h = Memᴰ.tail (at-in d l i (omega arith))

-- ---- the indices from i on that pass a test, sorted

module _ (before : ℕ → ℕ → Bool) (test : ℕ → Bool) (n : ℕ) where
  abbrev pub sorted_from : ℕ → List ℕ
  sorted_from i = sort before (filter test (count_from i (n - i)))

  pub sorted-none : [] ≡ sorted_from n
  unfolding sort count_from
  sorted-none = let z : n - n ≡ 0 = omega arith in rw z refl

  pub sorted-hit : (i : ℕ) → 0 < i → i ≤ n → test (i - 1) ≡ true → insert before (i - 1) (sorted_from i) ≡ sorted_from (i - 1)
  unfolding sort
  sorted-hit i h k e =
      let z : i - 1 + 1 ≡ i = omega arith in
      let c : count_from (i - 1) (n - (i - 1)) ≡ (i - 1) ∷ count_from i (n - i) = count_turn (i - 1) n (omega arith) ∙ ap (λ (j : ℕ). (i - 1) ∷ count_from j (n - j)) z in
      rw (c, e) refl

  pub sorted-miss : (i : ℕ) → 0 < i → i ≤ n → test (i - 1) ≡ false → sorted_from i ≡ sorted_from (i - 1)
  sorted-miss i h k e =
      let z : i - 1 + 1 ≡ i = omega arith in
      let c : count_from (i - 1) (n - (i - 1)) ≡ (i - 1) ∷ count_from i (n - i) = count_turn (i - 1) n (omega arith) ∙ ap (λ (j : ℕ). (i - 1) ∷ count_from j (n - j)) z in
      rw (c, e) refl

  pub sorted-below : {l : List ℕ} (i : ℕ) → i ≤ n → l ≡ sorted_from i → MembersBelow n l
  sorted-below i h e j m =
      let a = sort-in before (filter test (count_from i (n - i))) j (rw e at m) in
      let b = count-in i (n - i) j (filter-in test (count_from i (n - i)) j a).0 in
      omega (arith, b.1)

  pub sorted-few : {l : List ℕ} (i : ℕ) → l ≡ sorted_from i → length l ≤ n - i
  sorted-few i e =
      let a = perm-length (sort-perm before (filter test (count_from i (n - i)))) in
      let b = filter-few test (count_from i (n - i)) in
      let c = count-length i (n - i) in
      let d = ap (λ (k : List ℕ). length k) e in
      omega (arith, a, b, c, d)
