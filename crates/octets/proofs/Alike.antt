-- How many bytes at the front of two strings are alike: from a place on, in part of them, and by the lowest bit in which two words differ; then the order and the sameness of the strings, by the byte behind these.
use Prim.Native.Nat.{ℕ, zero, suc, ◌+◌, ◌*◌, ◌/◌, ◌^◌, ◌%◌, ◌≤◌, ◌<◌, suc-le-suc}
use native.Mathlib.Nat.{suc-add, zero-add, add-zero, mul-one, pow-suc}
use Rattle.std.proofs.lemmas.Nat.{xor_block, xor_of_8}
use Rattle.lists.proofs.Bools.{by}
use mathlib.Core.Path.{◌≡◌, refl, sym, ap, ap₂, ◌∙◌}
use mathlib.Core.Bool.{true, false, cond, ◌&&◌, ◌||◌}
use mathlib.Core.List.{List, [], ◌∷◌}
use native.Mathlib.Omega.{arith}
use lib.Bits.{bit_xor, xor_self, xor_add_and, and_le_l, and_le_r, block_half, block_odd, shifted_half, shifted_even}
use lib.Count.{count_trailing_zeros, under, trailing_of_zero}
use lib.Dec.{eqb, ltb}
use lib.ListN.{length, get_or, take, drop, length-drop}
use lib.Seq.{length-take-le}
use Rattle.std.proofs.lemmas.List.Sums.{common_prefix_len-le, common_prefix_len-drop_no, common_prefix_len-drop_yes}
use Rattle.octets.specs.Alike.{alike}
use Rattle.octets.specs.Order.{is_before, same}
use Rattle.octets.specs.Bytes.{Bytes}
use Rattle.octets.specs.Words.{word, word_bytes, word_at}
use Rattle.octets.proofs.Numbers.{bytes_take, bytes_drop, bytes-of-word}

pub alike-le : (a b : List ℕ) → (alike a b ≤ length a) × (alike a b ≤ length b)
unfolding alike
alike-le a b = common_prefix_len-le eqb a b

pub alike-from : (i : ℕ) (a b : List ℕ) → i ≤ alike a b → alike a b ≡ i + alike (drop i a) (drop i b)
unfolding alike
alike-from zero a b h = omega arith
alike-from (suc i) [] b h = absurd (omega arith)
alike-from (suc i) (x ∷ a) [] h = absurd (omega arith)
alike-from (suc i) (x ∷ a) (y ∷ b) h = grind (arith, alike-from i a b)

pub alike-take : (n : ℕ) (a b : List ℕ) → alike (take n a) (take n b) ≡ cond (ltb (alike a b) n) (alike a b) n
unfolding alike
alike-take zero a b = grind arith
alike-take (suc n) [] b = grind arith
alike-take (suc n) (x ∷ a) [] = grind arith
alike-take (suc n) (x ∷ a) (y ∷ b) = grind (arith, alike-take n a b)

-- a part of n behind bytes alike: whole, or up to the first that differs
module _ (n i : ℕ) (a b : List ℕ) (h : i ≤ alike a b) where
  pub part-whole : n ≤ alike (take n (drop i a)) (take n (drop i b)) → i + n ≤ alike a b
  part-whole e = grind (arith, alike-from i a b h, alike-take n (drop i a) (drop i b))

  pub part-ends : alike (take n (drop i a)) (take n (drop i b)) < n → i + alike (take n (drop i a)) (take n (drop i b)) ≡ alike a b
  part-ends e = grind (arith, alike-from i a b h, alike-take n (drop i a) (drop i b))

  pub part-last : alike a b ≤ i + n → i + alike (take n (drop i a)) (take n (drop i b)) ≡ alike a b
  part-last e = grind (arith, alike-from i a b h, alike-take n (drop i a) (drop i b))

-- one byte
module _ (i : ℕ) (a b : List ℕ) (h : i ≤ alike a b) (k : i < length a) (l : i < length b) where
  pub byte-ends : eqb (get_or a i 0) (get_or b i 0) ≡ false → i ≡ alike a b
  unfolding alike
  byte-ends e = omega (arith, alike-from i a b h, common_prefix_len-drop_no eqb a b i 0 0 k l e)

  pub byte-alike : eqb (get_or a i 0) (get_or b i 0) ≡ true → i + 1 ≤ alike a b
  unfolding alike
  byte-alike e = omega (arith, alike-from i a b h, common_prefix_len-drop_yes eqb a b i 0 0 k l e)

-- ---- the lowest bit in which two words differ

under-lt : (d t j : ℕ) → (d ≡ 0 → t < j) → under d t < suc j
under-lt zero t j h = suc-le-suc (h refl)
under-lt (suc d) t j h = omega arith

-- a number whose lowest j bits are not all 0 ends in fewer than j zeros
low-zeros : (j k m r : ℕ) → r < 2 ^ j → (r ≡ 0 → ⊥) → count_trailing_zeros (j + k) (m * 2 ^ j + r) < j
unfolding count_trailing_zeros
low-zeros zero k m r h z = absurd (z (omega arith))
low-zeros (suc j) k m r h z =
    rw (suc-add j k, block_odd m j r, block_half m j r)
    (under-lt (r % 2) _ j (λ e. low-zeros j k m (r / 2) (omega (arith, pow-suc 2 j)) (λ q. z (omega arith))))

-- one whose lowest j bits are all 0 ends in these and in the zeros of the rest
high-zeros : (j k m : ℕ) → count_trailing_zeros (j + k) (m * 2 ^ j) ≡ j + count_trailing_zeros k m
unfolding count_trailing_zeros
high-zeros zero k m = rw (zero-add k, mul-one m, zero-add (count_trailing_zeros k m)) refl
high-zeros (suc j) k m = rw (suc-add j k, shifted_even m j, shifted_half m j, suc-add j (count_trailing_zeros k m)) (ap suc (high-zeros j k m))

no-bit-differs : (x y : ℕ) → bit_xor x y ≡ 0 → x ≡ y
no-bit-differs x y e = omega (arith, xor_add_and x y, and_le_l x y, and_le_r x y)

-- the bytes before it are alike
pub lowest-differs : (s t : List ℕ) → Bytes s → Bytes t → length s ≡ length t → count_trailing_zeros (8 * length s) (bit_xor (word s) (word t)) / 8 ≡ alike s t
unfolding alike word
lowest-differs [] [] p q e = rw (trailing_of_zero 0) refl
lowest-differs [] (y ∷ t) p q e = absurd (omega arith)
lowest-differs (x ∷ s) [] p q e = absurd (omega arith)
lowest-differs (x ∷ s) (y ∷ t) p q e =
    let w = word s in
    let v = word t in
    let k = 8 * length s in
    let d = bit_xor w v in
    let a : x + w * 256 ≡ w * 2 ^ 8 + x = omega arith in
    let b : y + v * 256 ≡ v * 2 ^ 8 + y = omega arith in
    let c : bit_xor (x + w * 256) (y + v * 256) ≡ d * 2 ^ 8 + bit_xor x y = ap₂ bit_xor a b ∙ xor_block 8 w v x y p.0 q.0 in
    let ih = lowest-differs s t p.1 q.1 (omega arith) in
    let width : 8 * suc (length s) ≡ 8 + k = omega arith in
    rw (c, width)
    (by (eqb x y)
    (λ h. let o : bit_xor x y ≡ 0 = ap (bit_xor x) (sym (grind arith)) ∙ xor_self x in
    rw (o, add-zero (d * 2 ^ 8), high-zeros 8 k d) (grind (arith, ih)))
    (λ h. let less = low-zeros 8 k d (bit_xor x y) (xor_of_8 x y p.0 q.0) (λ z. grind (arith, no-bit-differs x y z)) in
    grind (arith, less)))

-- ---- words

alike-self : (s : List ℕ) → alike s s ≡ length s
unfolding alike
alike-self [] = refl
alike-self (x ∷ s) = grind (arith, alike-self s)

pub word-alike : (i : ℕ) (a b : List ℕ) → Bytes a → Bytes b → i + 8 ≤ length a → i + 8 ≤ length b → i ≤ alike a b → word_at 8 i a ≡ word_at 8 i b → i + 8 ≤ alike a b
word-alike i a b p q k l h w =
    let s = take 8 (drop i a) in
    let t = take 8 (drop i b) in
    let m : length s ≡ 8 = length-take-le 8 (drop i a) (rw length-drop (omega arith)) in
    let n : length t ≡ 8 = length-take-le 8 (drop i b) (rw length-drop (omega arith)) in
    let e : s ≡ t = sym (ap (λ (x : ℕ). word_bytes x (word s)) (sym m) ∙ bytes-of-word s (bytes_take 8 (drop i a) (bytes_drop i a p))) ∙ ap (word_bytes 8) w ∙ ap (λ (x : ℕ). word_bytes x (word t)) (sym n) ∙ bytes-of-word t (bytes_take 8 (drop i b) (bytes_drop i b q)) in
    part-whole 8 i a b h (rw e (omega (arith, alike-self t, n)))

-- ---- the order by the byte behind

pub before-behind : (a b : List ℕ) → (ltb (alike a b) (length b) && (eqb (alike a b) (length a) || ltb (get_or a (alike a b) 0) (get_or b (alike a b) 0))) ≡ is_before a b
unfolding alike is_before
before-behind [] [] = refl
before-behind [] (y ∷ b) = grind arith
before-behind (x ∷ a) [] = refl
before-behind (x ∷ a) (y ∷ b) = grind (arith, before-behind a b)

pub same-whole : (a b : List ℕ) → (eqb (length a) (length b) && eqb (alike a b) (length a)) ≡ same a b
unfolding alike same is_before
same-whole [] [] = refl
same-whole [] (y ∷ b) = grind arith
same-whole (x ∷ a) [] = grind arith
same-whole (x ∷ a) (y ∷ b) = grind (arith, same-whole a b)

pub alike-same : (i : ℕ) (a b : List ℕ) → i ≤ alike a b → take i a ≡ take i b
unfolding alike
alike-same zero a b h = refl
alike-same (suc i) [] b h = absurd (omega arith)
alike-same (suc i) (x ∷ a) [] h = absurd (omega arith)
alike-same (suc i) (x ∷ a) (y ∷ b) h = grind (arith, alike-same i a b)
