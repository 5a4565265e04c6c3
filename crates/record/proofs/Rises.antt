-- Which tags are below the one after them: where the bits are those of the first tags, and the tag after these is zero, they ascend, and all behind
-- them are zero.
use Prim.Native.Nat.{ℕ, zero, suc, ◌+◌, ◌-◌, ◌*◌, ◌^◌, ◌≤◌, ◌<◌}
use mathlib.Core.Path.{◌≡◌, refl}
use mathlib.Core.Bool.{Bool, true, ◌&&◌, ◌||◌}
use mathlib.Core.List.{List, [], ◌∷◌, ◌++◌}
use native.Mathlib.Omega.{arith}
use native.Mathlib.Nat.{pow-suc, suc-add}
use lib.Dec.{eqb}
use lib.ListN.{take, drop}
use lib.Seq.{take-add, drop-drop}
use Rattle.octets.specs.Words.{word}
use Rattle.octets.specs.Runs.{all_zero}
use Rattle.record.specs.Layout.{max_tags, tags_at}
use Rattle.record.specs.Fields.{tag_at, tags_from}
use Rattle.record.specs.Formed.{ascends, ascends_from}
use Rattle.record.specs.Rises.{rises_from}

pub rises-lt : (r : List ℕ) (n i : ℕ) → rises_from r i n < 2 ^ n
unfolding rises_from
rises-lt r zero i = omega arith
rises-lt r (suc n) i = grind (arith, rises-lt r n (i + 1), pow-suc 2 n)

-- n tags from the j-th on are zero
unfoldable zeros : List ℕ → ℕ → ℕ → Bool
zeros r j zero = true
zeros r j (suc n) = eqb (tag_at r j) 0 && zeros r (j + 1) n

-- behind a tag that is zero
behind : (r : List ℕ) (m i : ℕ) → tag_at r i ≡ 0 → eqb (rises_from r i m) 0 ≡ zeros r (i + 1) m
unfolding rises_from zeros
behind r zero i e = refl
behind r (suc m) i e = grind (arith, behind r m (i + 1))

-- the tag after is zero, or there is none
ended : (r : List ℕ) (m i : ℕ) → (eqb (rises_from r i m) 0 && (eqb m 0 || eqb (tag_at r (i + 1)) 0)) ≡ zeros r (i + 1) m
unfolding rises_from zeros
ended r zero i = refl
ended r (suc m) i = grind (arith, behind r m (i + 1))

-- the first k ascend
risen : (r : List ℕ) (k m i : ℕ) → (eqb (rises_from r i (k + m) + 1) (2 ^ k) && (eqb m 0 || eqb (tag_at r (i + 1 + k)) 0)) ≡ (ascends_from (tag_at r i) (tags_from r (i + 1) k) && zeros r (i + 1 + k) m)
unfolding rises_from ascends_from tags_from
risen r zero m i = grind (arith, ended r m i)
risen r (suc k) m i =
    let e : i + 1 + suc k ≡ i + 1 + 1 + k = omega arith in
    rw (suc-add k m, e) (grind (arith, pow-suc 2 k, risen r k m (i + 1)))

-- ---- zero words are zero bytes

pub zero-word : (s : List ℕ) → eqb (word s) 0 ≡ all_zero s
unfolding word all_zero
zero-word [] = refl
zero-word (b ∷ s) = grind (arith, zero-word s)

zero-append : (s t : List ℕ) → all_zero (s ++ t) ≡ (all_zero s && all_zero t)
unfolding all_zero
zero-append [] t = refl
zero-append (b ∷ s) t = grind (arith, zero-append s t)

zero-tags : (r : List ℕ) (m j : ℕ) → zeros r j m ≡ all_zero (take (8 * m) (drop (tags_at + 8 * j) r))
unfolding zeros
zero-tags r zero j = unfold all_zero in refl
zero-tags r (suc m) j =
    let l : 8 * suc m ≡ 8 + 8 * m = omega arith in
    let a : tags_at + 8 * (j + 1) ≡ tags_at + 8 * j + 8 = omega arith in
    rw (l, take-add 8 (8 * m) (drop (tags_at + 8 * j) r), zero-append, drop-drop, ← zero-word, zero-tags r m (j + 1), a) refl

-- ---- as the test of a record has it

pub tags-risen : (r : List ℕ) (n : ℕ) → 1 ≤ n → n ≤ max_tags
    → (eqb (rises_from r 0 (max_tags - 1) + 1) (2 ^ (n - 1)) && (eqb n max_tags || eqb (tag_at r n) 0)) ≡ (ascends (tags_from r 0 n) && all_zero (take (8 * (max_tags - n)) (drop (tags_at + 8 * n) r)))
unfolding ascends tags_from
tags-risen r zero h k = absurd (omega arith)
tags-risen r (suc n) h k =
    let m = max_tags - suc n in
    let a : suc n - 1 ≡ n = omega arith in
    let f : n + m ≡ max_tags - 1 = omega arith in
    let g : 0 + 1 + n ≡ suc n = omega arith in
    let z : eqb m 0 ≡ eqb (suc n) max_tags = grind arith in
    let q = risen r n m 0 in
    rw a (rw (f, g, z, zero-tags r m (suc n)) at q)
