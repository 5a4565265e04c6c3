-- Every decision that is not refused keeps the laws of specs/Claims, and none depends on the order of its items.
use mathlib.Core.Path.{◌≡◌, refl, sym, ap, ◌∙◌, subst}
use mathlib.Core.Bool.{Bool, false}
use mathlib.Core.List.Memᴰ
use mathlib.Core.List.Permᴰ
use mathlib.Core.List.{List, [], map, Memᴰ, Permᴰ}
use Prim.Native.Nat.{ℕ, zero, suc, ◌<◌}
use native.Mathlib.Omega.{arith}
use Rattle.lists.specs.Ordered.{up_to}
use Rattle.lists.proofs.Lists.{up_in, up_of}
use Rattle.lists.proofs.Orders.{perm-mem}
use Rattle.lists.proofs.Sorting.{Strict, strict-sub, sort-ascends}
use Rattle.decision_items.specs.Items.{subset_at, agreement_at, disagrees_at, within_at, lower_at, ahead_at, ahead_by_standing, ahead_by_weight}
use Rattle.decision_items.proofs.Reading.{same-record, same_inputs, same-identity, same-standing, same-consistent, same-preferred, same-verified}
use Rattle.decision_rule.specs.Standing.{decide}
use Rattle.decision_rule.specs.Outcome.{Refused, Outcome}
use Rattle.decision_rule.specs.Related.{item_relations}
use Rattle.decision.specs.Answer.{is_bad, outcome}
use Rattle.decision.specs.Claims.{EachOnce, Names, contest, succession, DecisionsLawful, item_count, item_at, Reordered, SameDecision, OrderFree}
use Rattle.decision.proofs.Carried.{Alike, carried, carried_outcome}
use Rattle.decision.proofs.Laws.{Named, opponent, successor, listed-once, refused-names, some_ranked, same-ranked, same-dominated, same-refused}
use Rattle.decision.proofs.Passed.{good-items}
use Rattle.decision.proofs.Sound.{rel-sound, by-identity, by_rank, rank-apart, ahead-trans, is-consistent, is_subset, is-apart}
use Rattle.arithmetic.specs.declared.standing.ChiSquare.{ChiSquare}

pub each_once : (A C : Type 0) → EachOnce A C
each_once A C r all = listed-once r all

named : (s : List ℕ) (x : Refused ℕ ChiSquare) → Named (item_relations s) (up_to (item_count s)) x → Names s x
named s x (opponent p c m d u) =
    contest p c
    (record {
      an_item = up_in (item_count s) x.against m;
      consistent = is-consistent s x.item x.against d;
      subset = is_subset s x.item x.against d;
      disagreeing = is-apart s x.item x.against d;
      unsuperseded = u;
    })
named s x (successor p c m d v o) =
    succession p c
    (record {
      an_item = up_in (item_count s) x.against m;
      superset = is_subset s x.against x.item d;
      disagreeing = is-apart s x.against x.item d;
      verified = v;
      more_standing = o;
    })

-- one is ranked where there is an item
pub ranks-some : (s : List ℕ) → 0 < item_count s → (i : ℕ) × Memᴰ i (outcome s).ranked
ranks-some s h = some_ranked (item_relations s) (up_to (item_count s)) (rel-sound s) 0 (up_of (item_count s) 0 h)

pub lawful : DecisionsLawful
unfolding decide
lawful s e = record {
  each_once = listed-once (item_relations s) (up_to (item_count s));
  some_ranked = λ q. none q (item_count s) refl;
  by_rank = sort-ascends (ahead_at s) (ahead-trans s) _ (rank-apart s (item_count s) (good-items s e) _);
  names = λ x m. named s x (refused-names (item_relations s) (up_to (item_count s)) x m);
}
  where
    none : (outcome s).ranked ≡ [] → (k : ℕ) → item_count s ≡ k → item_count s ≡ 0
    none q zero z = z
    none q (suc k) z =
        let r = ranks-some s (omega arith) in
        absurd (Memᴰ.not-nil (subst (λ (l : List ℕ). Memᴰ r.0 l) q r.1))

-- ---- the order of the items

module _ (s t : List ℕ) (to : ℕ → ℕ) (w : Reordered s t to) where
  abbrev n : ℕ
  n = item_count s

  -- the items relate as they did
  pub alike : (l : List ℕ) → ((i : ℕ) → Memᴰ i l → i < n) → Alike (item_relations s) (item_relations t) to (λ c. c) l
  unfolding disagrees_at within_at subset_at agreement_at ahead_at ahead_by_standing ahead_by_weight
  alike l sub = record {
    disagrees = λ i j h k. rw (same-consistent s t j (to j) (at j k), same-record s t j (to j) (at j k), same-record s t i (to i) (at i h)) refl;
    chi_square = λ i j h k. rw (same-record s t j (to j) (at j k), same-record s t i (to i) (at i h)) refl;
    outstands = λ i j h k. rw (same-standing s t j (to j) (at j k), same-standing s t i (to i) (at i h)) refl;
    passed = λ i h. rw (same-verified s t i (to i) (at i h)) refl;
    within = λ i j h k.
        rw (same-record s t i (to i) (at i h), same-record s t j (to j) (at j k), same_inputs s t i (to i) (at i h), same_inputs s t j (to j) (at j k)) refl;
    lower = λ i j h k. rw (same-identity s t i (to i) (at i h), same-identity s t j (to j) (at j k)) refl;
    ahead = λ i j h k.
        rw (
          same-preferred s t i (to i) (at i h),
          same-preferred s t j (to j) (at j k),
          same-standing s t i (to i) (at i h),
          same-standing s t j (to j) (at j k),
          same-record s t i (to i) (at i h),
          same-record s t j (to j) (at j k),
          same-identity s t i (to i) (at i h),
          same-identity s t j (to j) (at j k),
        ) refl;
  }
    where
      at : (i : ℕ) → Memᴰ i l → item_at t (to i) ≡ item_at s i
      at i m = w.items i (sub i m)

  moved-over : decide (item_relations t) (map to (up_to n)) ≡ carried_outcome to (λ c. c) (outcome s)
  moved-over = carried (item_relations s) (item_relations t) to (λ c. c) (up_to n) (alike (up_to n) (up_in n))

  module _ (good : is_bad t ≡ false) where
    -- identity and rank order the items of t, in either order
    turned : {before : ℕ → ℕ → Bool} → Strict before (up_to (item_count t)) → Strict before (map to (up_to n))
    turned {before} o = strict-sub before (λ i m. perm-mem (Permᴰ.symm w.places) m) o

    pub lower : Strict (lower_at t) (map to (up_to n))
    lower = turned (by-identity t (item_count t) (good-items t good))

    same : SameDecision s t to
    same = record {
      ranked =
          sym (same-ranked (item_relations t) (map to (up_to n)) (up_to (item_count t)) w.places lower (turned (by_rank t (item_count t) (good-items t good))))
          ∙ ap (λ (o : Outcome ℕ ChiSquare). o.ranked) moved-over;
      dominated =
          subst (λ (o : Outcome ℕ ChiSquare). Permᴰ (outcome t).dominated o.dominated) moved-over
          (Permᴰ.symm (same-dominated (item_relations t) (map to (up_to n)) (up_to (item_count t)) w.places lower));
      refused =
          subst (λ (o : Outcome ℕ ChiSquare). Permᴰ (outcome t).refused o.refused) moved-over
          (Permᴰ.symm (same-refused (item_relations t) (map to (up_to n)) (up_to (item_count t)) w.places lower));
    }

pub order-free : OrderFree
order-free s t to e f w = same s t to w f
