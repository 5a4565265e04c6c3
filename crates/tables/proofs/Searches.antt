-- What std's clauses on slices of arrays say of the places of a table.
use Rattle.std.proofs.Common.{◌≡◌, ℕ, zero, suc, ◌-◌, ◌≤◌, Bool, true, false, List, [], ◌∷◌, length, take, drop, get_or, refl, ap, arith}
use Rattle.std.specs.List.Sorted.{IsPartitionPoint, IsPartitionedBy}
use Rattle.std.specs.Simd.{first_chunks}
use Rattle.std.proofs.lemmas.List.{get_or_default}
use Rattle.octets.specs.Order.{is_before}
use Rattle.octets.proofs.Comparison.{before-trans}
use Rattle.tables.specs.Places.{places, ascending}
use Rattle.tables.specs.Positions.{rank}
use Rattle.tables.proofs.Keys.{rank-le, rank-above, rank_below, keys-ascend}

-- the first n of m chunks are n places
pub first-places : (w n m : ℕ) (t : List ℕ) → n ≤ m → take n (first_chunks w m t) ≡ places w n t
unfolding places
first-places w zero m t h = refl
first-places w (suc n) zero t h = absurd (omega arith)
first-places w (suc n) (suc m) t h = ap (λ (ps : List (List ℕ)). take w t ∷ ps) (first-places w n m (drop w t) (omega arith))

-- ---- a key

module _ (k : ℕ) (key : List ℕ) (ps : List (List ℕ)) (a : ascending k ps ≡ true) where
  abbrev pub before : List ℕ → Bool
  before y = is_before (take k y) key

  -- those before a key come first
  pub parted : IsPartitionedBy before ps
  parted i j d h l b = grind (arith, get_or_default ps i d [], get_or_default ps j d [], before-trans (take k (get_or ps i [])) (take k (get_or ps j [])) key, keys-ascend k ps i j a)

  -- and they end at its position
  pub position : (i : ℕ) → i ≤ length ps → IsPartitionPoint (λ y. before y ≡ true) (λ y. before y ≡ false) ps i → rank k key ps ≡ i
  position i l h = grind (arith, rank_below k key ps i, h.1 i [], rank-le k key ps, rank-above k key ps (i - 1) a, h.0 (i - 1) [])
