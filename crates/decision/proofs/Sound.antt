-- The relations of items in bytes are sound, so that the laws hold of every decision: standing and the number of tags are numbers, and distinct identities
-- make identity and rank strict total orders.
use mathlib.Core.Path.{◌≡◌, refl, sym, ap, ◌∙◌}
use mathlib.Core.Bool.{Bool, true, false, not, ◌&&◌, true≢false, false≢true}
use mathlib.Core.List.{List}
use mathlib.Core.Logic.{◌⊎◌, inl, inr}
use Prim.Native.Nat.{ℕ, zero, suc, ◌+◌, ◌≤◌, ◌<◌}
use native.Mathlib.Omega.{arith}
use native.Mathlib.Decide.{dec_lt}
use lib.Dec.{ltb}
use borrow.Author.Tests.{ltb-true, lt-ltb, le-ltb, ltb-false}
use Rattle.octets.specs.Order.{same}
use Rattle.octets.proofs.Comparison.{before-trans, before-irrefl, tri, same_refl}
use Rattle.record.specs.Fields.{tag_count}
use Rattle.record.specs.Formed.{well_formed}
use Rattle.record.proofs.Laws.{subset-fewer}
use Rattle.std.specs.List.{filter, list_any}
use Rattle.lists.proofs.Bools.{by, or, and_left, and_right, not_t, neither_right}
use Rattle.lists.specs.Ordered.{count_from, up_to}
use Rattle.lists.proofs.Lists.{any-no, count-in, up_in, up_of}
use Rattle.lists.proofs.Sorting.{Strict, Apart, single, also, apart-filter}
use Rattle.arithmetic.specs.Agree.{agrees_of}
use Rattle.decision_items.specs.Items.{item_record, item_identity, item_standing, item_weight, item_consistent, item_preferred, subset_at, agreement_at, disagrees_at, within_at, same_inputs, same_identity, lower_at, ahead_by_weight, ahead_by_standing, ahead_at}
use Rattle.decision_items.specs.Claimed.{more_first}
use Rattle.decision_rule.specs.Related.{item_relations}
use Rattle.decision.specs.Answer.{bad_at}
use Rattle.decision.proofs.Laws.{Sound}

fewer : (s : List ℕ) (i j : ℕ) → subset_at s i j ≡ true → tag_count (item_record s i) < tag_count (item_record s j)
unfolding subset_at
fewer s i j e = subset-fewer (item_record s i) (item_record s j) e

-- a disagreeing subset is consistent, a subset, and does not agree
module _ (s : List ℕ) (i j : ℕ) (e : disagrees_at s i j ≡ true) where
  pub is-consistent : item_consistent s j ≡ true
  unfolding disagrees_at
  is-consistent = and_left (item_consistent s j) (subset_at s j i && not (agrees_of (agreement_at s i j))) e

  pub is_subset : subset_at s j i ≡ true
  unfolding disagrees_at
  is_subset = and_left (subset_at s j i) (not (agrees_of (agreement_at s i j))) (and_right (item_consistent s j) (subset_at s j i && not (agrees_of (agreement_at s i j))) e)

  pub is-apart : agrees_of (agreement_at s i j) ≡ false
  unfolding disagrees_at
  is-apart = not_t (agrees_of (agreement_at s i j)) (and_right (subset_at s j i) (not (agrees_of (agreement_at s i j))) (and_right (item_consistent s j) (subset_at s j i && not (agrees_of (agreement_at s i j))) e))

pub rel-sound : (s : List ℕ) → Sound (item_relations s)
unfolding within_at
rel-sound s = record {
  standing = λ i. item_standing s i;
  size = λ i. tag_count (item_record s i);
  over-is = λ i j e. ltb-true (item_standing s j) (item_standing s i) e;
  dis_size = λ i j e. fewer s j i (is_subset s i j e);
  sub_size = λ i j e. fewer s i j (and_left (subset_at s i j) (same_inputs s i j) e);
}

-- ---- identity and rank

-- the more first, then by another order
more-trans : (a b c : ℕ) (p q t : Bool) → (p ≡ true → q ≡ true → t ≡ true) → more_first a b p ≡ true → more_first b c q ≡ true → more_first a c t ≡ true
more-trans a b c p q t f u v =
    by (ltb b a)
    (λ x. by (ltb c b)
    (λ y. let l = ltb-true b a x in let m = ltb-true c b y in rw (lt-ltb c a (omega arith)) refl)
    (λ y. by (ltb b c) (λ z. absurd (false≢true (rw (y, z) at v)))
    (λ z. let l = ltb-true b a x in let m = ltb-false b c z in rw (lt-ltb c a (omega arith)) refl)))
    (λ x. by (ltb a b) (λ z. absurd (false≢true (rw (x, z) at u)))
    (λ z. let l = ltb-false b a x in let m = ltb-false a b z in
    by (ltb c b)
    (λ y. let k = ltb-true c b y in rw (lt-ltb c a (omega arith)) refl)
    (λ y. by (ltb b c) (λ w. absurd (false≢true (rw (y, w) at v)))
    (λ w. let k = ltb-false c b y in let j = ltb-false b c w in
    rw (le-ltb c a (omega arith), le-ltb a c (omega arith)) (f (rw (x, z) at u) (rw (y, w) at v))))))

more-irrefl : (a : ℕ) (p : Bool) → p ≡ false → more_first a a p ≡ false
more-irrefl a p e = rw (le-ltb a a (omega arith)) e

more-total : (a b : ℕ) (p q : Bool) → (p ≡ true) ⊎ (q ≡ true) → (more_first a b p ≡ true) ⊎ (more_first b a q ≡ true)
more-total a b p q f =
    by (ltb b a)
    (λ x. inl (rw x refl))
    (λ x. by (ltb a b)
    (λ y. inr (rw y refl))
    (λ y. or f (λ u. inl (rw (x, y) u)) (λ u. inr (rw (y, x) u))))

module _ (s : List ℕ) where
  weight-trans : (i j k : ℕ) → ahead_by_weight s i j ≡ true → ahead_by_weight s j k ≡ true → ahead_by_weight s i k ≡ true
  unfolding ahead_by_weight
  weight-trans i j k u v =
      more-trans (item_weight s i) (item_weight s j) (item_weight s k) (lower_at s i j) (lower_at s j k) (lower_at s i k)
      (before-trans (item_identity s i) (item_identity s j) (item_identity s k)) u v

  standing-trans : (i j k : ℕ) → ahead_by_standing s i j ≡ true → ahead_by_standing s j k ≡ true → ahead_by_standing s i k ≡ true
  unfolding ahead_by_standing
  standing-trans i j k u v =
      more-trans (item_standing s i) (item_standing s j) (item_standing s k) (ahead_by_weight s i j) (ahead_by_weight s j k) (ahead_by_weight s i k) (weight-trans i j k) u v

  pub ahead-trans : (i j k : ℕ) → ahead_at s i j ≡ true → ahead_at s j k ≡ true → ahead_at s i k ≡ true
  unfolding ahead_at
  ahead-trans i j k u v =
      by (item_preferred s i)
      (λ a. by (item_preferred s k)
      (λ c. by (item_preferred s j)
      (λ b. rw (a, c) (standing-trans i j k (rw (a, b) at u) (rw (b, c) at v)))
      (λ b. absurd (false≢true (rw (b, c) at v))))
      (λ c. rw (a, c) refl))
      (λ a. by (item_preferred s j)
      (λ b. absurd (false≢true (rw (a, b) at u)))
      (λ b. by (item_preferred s k)
      (λ c. absurd (false≢true (rw (b, c) at v)))
      (λ c. rw (a, c) (standing-trans i j k (rw (a, b) at u) (rw (b, c) at v)))))

  standing-irrefl : (i : ℕ) → ahead_by_standing s i i ≡ false
  unfolding ahead_by_standing ahead_by_weight
  standing-irrefl i =
      more-irrefl (item_standing s i) (more_first (item_weight s i) (item_weight s i) (lower_at s i i))
      (more-irrefl (item_weight s i) (lower_at s i i) (before-irrefl (item_identity s i)))

  ahead-irrefl : (i : ℕ) → ahead_at s i i ≡ false
  unfolding ahead_at
  ahead-irrefl i = by (item_preferred s i) (λ a. rw a (standing-irrefl i)) (λ a. rw a (standing-irrefl i))

  ahead-total : (i j : ℕ) → (lower_at s i j ≡ true) ⊎ (lower_at s j i ≡ true) → (ahead_at s i j ≡ true) ⊎ (ahead_at s j i ≡ true)
  unfolding ahead_at ahead_by_standing ahead_by_weight
  ahead-total i j f =
      let w = more-total (item_weight s i) (item_weight s j) (lower_at s i j) (lower_at s j i) f in
      let t = more-total (item_standing s i) (item_standing s j) (ahead_by_weight s i j) (ahead_by_weight s j i) w in
      by (item_preferred s i)
      (λ a. by (item_preferred s j) (λ b. or t (λ u. inl (rw (a, b) u)) (λ u. inr (rw (b, a) u))) (λ b. inl (rw (a, b) refl)))
      (λ a. by (item_preferred s j) (λ b. inr (rw (b, a) refl)) (λ b. or t (λ u. inl (rw (a, b) u)) (λ u. inr (rw (b, a) u))))

  -- two items with one identity are refused
  module _ (n : ℕ) (good : list_any (bad_at s) (up_to n) ≡ false) where
    apart : (i j : ℕ) → i < n → j < i → item_identity s i ≡ item_identity s j → ⊥
    unfolding bad_at
    apart i j h l q =
        let b = neither_right (not (well_formed (item_record s i))) (list_any (same_identity s i) (up_to i)) (any-no (bad_at s) (up_to n) i good (up_of n i h)) in
        let c = any-no (same_identity s i) (up_to i) j b (up_of i j l) in
        true≢false (sym (same_refl (item_identity s i)) ∙ ap (same (item_identity s i)) q ∙ c)

    lower-total : (i j : ℕ) → i < n → j < n → (i ≡ j) ⊎ ((lower_at s i j ≡ true) ⊎ (lower_at s j i ≡ true))
    lower-total i j h l =
        or (tri (item_identity s i) (item_identity s j)) (λ a. inr (inl a))
        (λ b. or b (λ q. inl (equal q (dec_lt i j) (dec_lt j i))) (λ c. inr (inr c)))
      where
        equal : item_identity s i ≡ item_identity s j → Dec (i < j) → Dec (j < i) → i ≡ j
        equal q (yes p) d = absurd (apart j i l p (sym q))
        equal q (no p) (yes d) = absurd (apart i j h d q)
        equal q (no p) (no d) = omega arith

    rank-total : (i j : ℕ) → i < n → j < n → (i ≡ j) ⊎ ((ahead_at s i j ≡ true) ⊎ (ahead_at s j i ≡ true))
    rank-total i j h l = or (lower-total i j h l) (λ z. inl z) (λ f. inr (ahead-total i j f))

    -- items that `decide` does not refuse are strictly ordered
    pub by-identity : Strict (lower_at s) (up_to n)
    by-identity = record {
      irrefl = λ i. before-irrefl (item_identity s i);
      trans = λ i j k. before-trans (item_identity s i) (item_identity s j) (item_identity s k);
      total = λ i j h l. lower-total i j (up_in n i h) (up_in n j l);
    }

    pub by_rank : Strict (ahead_at s) (up_to n)
    by_rank = record { irrefl = ahead-irrefl; trans = ahead-trans; total = λ i j h l. rank-total i j (up_in n i h) (up_in n j l) }

    -- any two of them compare
    pub items-apart : {before : ℕ → ℕ → Bool} → Strict before (up_to n) → Apart before (up_to n)
    unfolding count_from
    items-apart {before} o = go 0 n (omega arith)
      where
        go : (k f : ℕ) → k + f ≤ n → Apart before (count_from k f)
        go k zero h = single
        go k (suc f) h =
            also
            (λ y m. let r = count-in (suc k) f y m in or (o.total k y (up_of n k (omega arith)) (up_of n y (omega arith))) (λ e. absurd (omega arith)) (λ e. e))
            (go (suc k) f (omega arith))

    -- and of those that pass a test one ranks before the other
    pub rank-apart : (test : ℕ → Bool) → Apart (ahead_at s) (filter test (up_to n))
    rank-apart test = apart-filter (ahead_at s) test (up_to n) (items-apart by_rank)
