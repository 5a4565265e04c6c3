-- A transposition puts byte j of row i at place j * rows + i, and the transposition of its columns undoes it.
use Rattle.std.proofs.Common.{◌≡◌, ℕ, zero, suc, ◌+◌, ◌*◌, ◌/◌, ◌%◌, ◌<◌, ◌≤◌, refl, sym, ap, ap₂, ◌∙◌, subst, arith, length, get_or, length-append, get_or-append-add}
use mathlib.Core.List.{List, [], ◌∷◌, ◌++◌, map, flat_map, append_assoc, append-nil}
use lib.ListN.{length-map}
use Rattle.std.proofs.lemmas.List.{get_or-map}
use Rattle.std.proofs.lemmas.Grind.{same_number_lists}
use Rattle.std.proofs.Math.ListN.{get_or-append}
use Rattle.std.proofs.Math.Nat.{div-lt_iff_lt-mul, mul_comm, div-add-mod, mod-lt}
use Rattle.lists.specs.Ordered.{count_from, up_to}
use Rattle.lists.proofs.Lists.{count-length}
use Rattle.register_columns.specs.Transposed.{column, transposed}

-- ---- where the bytes stand

count-at : (k n i d : ℕ) → i < n → get_or (count_from k n) i d ≡ k + i
unfolding count_from
count-at k zero i d h = absurd (omega arith)
count-at k (suc n) zero d h = omega arith
count-at k (suc n) (suc i) d h = count-at (suc k) n i d (omega (arith, h)) ∙ omega arith

module _ (rows width : ℕ) (l : List ℕ) where
  pub column-long : (j : ℕ) → length (column rows width l j) ≡ rows
  column-long j = length-map (up_to rows) (λ i. get_or l (i * width + j) 0) ∙ count-length 0 rows

  pub column-at : (j i : ℕ) → i < rows → get_or (column rows width l j) i 0 ≡ get_or l (i * width + j) 0
  column-at j i h =
      get_or-map (λ i. get_or l (i * width + j) 0) (up_to rows) i 0 0 (omega (arith, h, count-length 0 rows))
      ∙ ap (λ i. get_or l (i * width + j) 0) (count-at 0 rows i 0 h ∙ omega arith)

  columns-long : (k n : ℕ) → length (flat_map (column rows width l) (count_from k n)) ≡ n * rows
  unfolding flat_map count_from
  columns-long k zero = omega arith
  columns-long k (suc n) = length-append (column rows width l k) (flat_map (column rows width l) (count_from (suc k) n)) ∙ omega (arith, column-long k, columns-long (suc k) n)

  columns-at : (k n j i : ℕ) → j < n → i < rows → get_or (flat_map (column rows width l) (count_from k n)) (j * rows + i) 0 ≡ get_or (column rows width l (k + j)) i 0
  unfolding flat_map count_from
  columns-at k zero j i h r = absurd (omega arith)
  columns-at k (suc n) zero i h r =
      get_or-append (column rows width l k) (flat_map (column rows width l) (count_from (suc k) n)) 0 (0 * rows + i) (omega (arith, column-long k, r))
      ∙ ap₂ (λ a b. get_or (column rows width l a) b 0) (omega arith) (omega arith)
  columns-at k (suc n) (suc j) i h r =
      let e : suc j * rows + i ≡ length (column rows width l k) + (j * rows + i) = omega (arith, column-long k) in
      ap (λ m. get_or (column rows width l k ++ flat_map (column rows width l) (count_from (suc k) n)) m 0) e
      ∙ get_or-append-add (column rows width l k) (flat_map (column rows width l) (count_from (suc k) n)) (j * rows + i) 0
      ∙ columns-at (suc k) n j i (omega (arith, h)) r
      ∙ ap (λ a. get_or (column rows width l a) i 0) (omega arith)

  pub transposed-long : length (transposed rows width l) ≡ width * rows
  unfolding flat_map count_from
  transposed-long = columns-long 0 width

  -- byte j of row i
  pub transposed-at : (i j : ℕ) → i < rows → j < width → get_or (transposed rows width l) (j * rows + i) 0 ≡ get_or l (i * width + j) 0
  unfolding flat_map
  transposed-at i j h k = columns-at 0 width j i k h ∙ ap (λ a. get_or (column rows width l a) i 0) (omega arith) ∙ column-at j i h

  columns-more : (k n : ℕ) → flat_map (column rows width l) (count_from k (n + 1)) ≡ flat_map (column rows width l) (count_from k n) ++ column rows width l (k + n)
  unfolding flat_map count_from
  columns-more k zero = append-nil (column rows width l k) ∙ ap (column rows width l) (omega arith)
  columns-more k (suc n) =
      let e : suc n + 1 ≡ suc (n + 1) = omega arith in
      ap (λ m. flat_map (column rows width l) (count_from k m)) e
      ∙ ap (λ m. column rows width l k ++ m) (columns-more (suc k) n ∙ ap (λ a. flat_map (column rows width l) (count_from (suc k) n) ++ column rows width l a) (omega arith))
      ∙ sym (append_assoc (column rows width l k) (flat_map (column rows width l) (count_from (suc k) n)) (column rows width l (k + suc n)))

  -- one column more
  pub column-more : (n : ℕ) → flat_map (column rows width l) (up_to (n + 1)) ≡ flat_map (column rows width l) (up_to n) ++ column rows width l n
  column-more n = columns-more 0 n ∙ ap (λ j. flat_map (column rows width l) (up_to n) ++ column rows width l j) (omega arith)

-- each undoes the other, of a list of that many bytes
module _ (rows width : ℕ) (l : List ℕ) (e : length l ≡ rows * width) where
  long : length (transposed width rows (transposed rows width l)) ≡ length l
  long = transposed-long width rows (transposed rows width l) ∙ sym e

  positive : (w k : ℕ) → k < rows * w → 0 < w
  positive zero k h = absurd (omega arith)
  positive (suc w) k h = omega arith

  -- byte j of row i, where it was
  at : (i j : ℕ) → i < rows → j < width → get_or (transposed width rows (transposed rows width l)) (i * width + j) 0 ≡ get_or l (i * width + j) 0
  at i j h k = transposed-at width rows (transposed rows width l) j i k h ∙ transposed-at rows width l i j h k

  same : (k : ℕ) → k < length l → get_or (transposed width rows (transposed rows width l)) k 0 ≡ get_or l k 0
  same k h =
      let t : k < rows * width = omega (arith, h, e) in
      let c : k % width < width = mod-lt k (positive width k t) in
      let r : k / width < rows = (div-lt_iff_lt-mul {k = width} {x = k} {y = rows} (positive width k t)).1 t in
      let p : k / width * width + k % width ≡ k = ap (λ n. n + k % width) (mul_comm (k / width) width) ∙ div-add-mod k width in
      subst (λ n. get_or (transposed width rows (transposed rows width l)) n 0 ≡ get_or l n 0) p (at (k / width) (k % width) r c)

  pub turned-back : transposed width rows (transposed rows width l) ≡ l
  turned-back = same_number_lists (transposed width rows (transposed rows width l)) l long (λ k h. same k (subst (λ n. k < n) long h))
