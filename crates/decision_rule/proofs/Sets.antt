-- Laws of sets of places.
use Rattle.std.proofs.Common.{◌≡◌, ℕ, zero, suc, ◌+◌, ◌-◌, ◌*◌, ◌/◌, ◌%◌, ◌^◌, ◌≤◌, ◌<◌, Bool, true, false, cond, not, ◌&&◌, ◌||◌, List, [], ◌∷◌, ◌++◌, length, map, get_or, nat_eq, refl, sym, ap, ap₂, ◌∙◌, add-zero, zero-add, arith, bit_and, bit_or, min, max}
use Rattle.std.specs.Int.{bit_at, bit_not, w128}
use Rattle.std.proofs.lemmas.Nat.{and_le_l, pow_below, shr-shr}
use Rattle.std.proofs.lemmas.Nat.Bits.{bit_at_and, bit_at_or, bit_at_not, same_from_bits, same_from_bits_below, bit_at-pow_same, bit_at-pow_other, bit_at-zero}
use Rattle.std.proofs.lemmas.Simd.{bit_mask_l, mask_l-lt}
use Rattle.std.proofs.lemmas.Bool.{lt-ltb}
use borrow.Author.Tests.{ltb-true, ltb-false, eqb-true, eqb-false}
use mathlib.Core.Bool.{true≢false}
use lib.Dec.{eqb, ltb}
use lib.Lanes.{mask_l}
use Rattle.std.specs.List.{list_any}
use Rattle.lists.specs.Ordered.{count_from, up_to}
use Rattle.lists.proofs.Bools.{by}
use Rattle.lists.proofs.Searches.{up_more}
use Rattle.std.specs.Prelude.{nat_lt}
use Rattle.decision_rule.specs.Places.{has_place, set_of}

ext-from : (p q : ℕ → Bool) (k n : ℕ) → ((i : ℕ) → i < k + n → p i ≡ q i) → map p (count_from k n) ≡ map q (count_from k n)
unfolding count_from
ext-from p q k zero e = refl
ext-from p q k (suc n) e = ap₂ (λ (b : Bool) (l : List Bool). b ∷ l) (e k (omega arith)) (ext-from p q (suc k) n (λ i h. e i (omega arith)))

-- two tests that agree below n
pub set-ext : (p q : ℕ → Bool) (n : ℕ) → ((i : ℕ) → i < n → p i ≡ q i) → set_of p n ≡ set_of q n
set-ext p q n e = ap mask_l (ext-from p q 0 n (λ i h. e i (omega arith)))

ltb-suc : (i n : ℕ) → ltb i n ≡ ltb (suc i) (suc n)
ltb-suc i n =
    by (ltb i n) (λ t. let h = ltb-true i n t in rw (t, lt-ltb (suc i) (suc n) (omega (arith, h))) refl)
    (λ t. by (ltb (suc i) (suc n)) (λ u. let a = ltb-false i n t in let b = ltb-true (suc i) (suc n) u in absurd (omega (arith, a, b))) (λ u. rw (t, u) refl))

at-from : (p : ℕ → Bool) (k n i : ℕ) → get_or (map p (count_from k n)) i false ≡ cond (ltb i n) (p (k + i)) false
unfolding count_from
at-from p k zero i = by (ltb i 0) (λ t. let h = ltb-true i 0 t in absurd (omega (arith, h))) (λ t. rw t refl)
at-from p k (suc n) zero = rw (lt-ltb 0 (suc n) (omega arith), add-zero k) refl
at-from p k (suc n) (suc i) = let e : suc k + i ≡ k + suc i = omega arith in at-from p (suc k) n i ∙ rw (e, ltb-suc i n) refl

-- the bits of a set
pub bit-set : (p : ℕ → Bool) (n i : ℕ) → bit_at (set_of p n) i ≡ cond (cond (ltb i n) (p i) false) 1 0
bit-set p n i = bit_mask_l (map p (up_to n)) i ∙ ap (λ (b : Bool). cond b 1 0) (rw (zero-add i) at (at-from p 0 n i))

one-is : (b : Bool) → nat_eq (cond b 1 0) 1 ≡ b
one-is true = refl
one-is false = refl

pub has-set : (p : ℕ → Bool) (n i : ℕ) → i < n → has_place (set_of p n) i ≡ p i
has-set p n i h = ap (λ k. nat_eq k 1) (bit-set p n i) ∙ one-is (cond (ltb i n) (p i) false) ∙ rw (lt-ltb i n h) refl

or-bits : (c a b : Bool) → max (cond (cond c a false) 1 0) (cond (cond c b false) 1 0) ≡ cond (cond c (a || b) false) 1 0
or-bits true true true = refl
or-bits true true false = refl
or-bits true false true = refl
or-bits true false false = refl
or-bits false a b = refl

pub union-set : (p q : ℕ → Bool) (n : ℕ) → bit_or (set_of p n) (set_of q n) ≡ set_of (λ i. p i || q i) n
union-set p q n =
    same_from_bits _ _
    (λ i.
    bit_at_or (set_of p n) (set_of q n) i
    ∙ ap₂ max (bit-set p n i) (bit-set q n i)
    ∙ or-bits (ltb i n) (p i) (q i)
    ∙ sym (bit-set (λ k. p k || q k) n i))

not-bits : (c a b : Bool) → min (cond (cond c a false) 1 0) (1 - cond (cond c b false) 1 0) ≡ cond (cond c (a && not b) false) 1 0
not-bits true true true = refl
not-bits true true false = refl
not-bits true false true = refl
not-bits true false false = refl
not-bits false a b = refl

map-length : (p : ℕ → Bool) (k n : ℕ) → length (map p (count_from k n)) ≡ n
unfolding count_from
map-length p k zero = refl
map-length p k (suc n) = ap suc (map-length p (suc k) n)

small : (p : ℕ → Bool) (n : ℕ) → n ≤ 96 → set_of p n < 2 ^ 128
small p n h =
    let a : set_of p n < 2 ^ n = rw (map-length p 0 n) at (mask_l-lt (map p (up_to n))) in
    let b : 2 ^ n < 2 ^ 128 = pow_below n 128 (omega arith) in
    omega (arith, a, b)

pub without-set : (p q : ℕ → Bool) (n : ℕ) → n ≤ 96 → bit_and (set_of p n) (bit_not w128 (set_of q n)) ≡ set_of (λ i. p i && not (q i)) n
without-set p q n h =
    let a = and_le_l (set_of p n) (bit_not w128 (set_of q n)) in
    let b = small p n h in
    same_from_bits_below 128 _ _ (omega (arith, a, b)) (small (λ i. p i && not (q i)) n h)
    (λ i lt.
    bit_at_and (set_of p n) (bit_not w128 (set_of q n)) i
    ∙ ap₂ min (bit-set p n i) (bit_at_not w128 (set_of q n) i (small q n h) lt ∙ ap (λ k. 1 - k) (bit-set q n i))
    ∙ not-bits (ltb i n) (p i) (q i)
    ∙ sym (bit-set (λ k. p k && not (q k)) n i))

some-odd : (m : ℕ) → nat_eq (1 + 2 * m) 0 ≡ false
some-odd m = by (eqb (1 + 2 * m) 0) (λ t. let e = eqb-true _ _ t in absurd (omega (arith, e))) (λ t. t)

double : (m : ℕ) → nat_eq (0 + 2 * m) 0 ≡ nat_eq m 0
double m =
    by (eqb m 0) (λ t. let e = eqb-true _ _ t in rw e refl)
    (λ t. rw t (by (eqb (0 + 2 * m) 0) (λ u. let e = eqb-true _ _ u in absurd (eqb-false _ _ t (omega (arith, e)))) (λ u. u)))

none-of : (p : ℕ → Bool) (l : List ℕ) → nat_eq (mask_l (map p l)) 0 ≡ not (list_any p l)
none-of p [] = refl
none-of p (x ∷ l) =
    by (p x) (λ t. rw t (some-odd (mask_l (map p l)))) (λ t. rw t (double (mask_l (map p l)) ∙ none-of p l))

pub empty-set : (p : ℕ → Bool) (n : ℕ) → nat_eq (set_of p n) 0 ≡ not (list_any p (up_to n))
empty-set p n = none-of p (up_to n)

-- ---- a turn of a loop that puts in those that pass
turn-bits : (p : ℕ → Bool) (i k : ℕ) → p i ≡ true → max (cond (cond (ltb k i) (p k) false) 1 0) (bit_at (2 ^ i) k) ≡ cond (cond (ltb k (i + 1)) (p k) false) 1 0
turn-bits p i k e =
    by (eqb k i)
    (λ t. let z = eqb-true k i t in let lt : k < i + 1 = omega (arith, z) in
    rw (z, e, bit_at-pow_same i) (rw (lt-ltb i (i + 1) (omega arith)) (by (ltb i i) (λ u. rw u refl) (λ u. rw u refl))))
    (λ t. rw (bit_at-pow_other i k (eqb-false k i t)) (other t))
  where
    zeros : (b : Bool) → max (cond b 1 0) 0 ≡ cond b 1 0
    zeros true = refl
    zeros false = refl

    other : eqb k i ≡ false → max (cond (cond (ltb k i) (p k) false) 1 0) 0 ≡ cond (cond (ltb k (i + 1)) (p k) false) 1 0
    other t =
        by (ltb k i)
        (λ u. let lt = ltb-true k i u in rw (u, lt-ltb k (i + 1) (omega (arith, lt))) (zeros (p k)))
        (λ u. by (ltb k (i + 1)) (λ v. absurd (eqb-false k i t (let a = ltb-false k i u in let b = ltb-true k (i + 1) v in omega (arith, a, b)))) (λ v. rw (u, v) refl))

pub set-hit : (p : ℕ → Bool) (i : ℕ) → p i ≡ true → bit_or (set_of p i) (2 ^ i) ≡ set_of p (i + 1)
set-hit p i e =
    same_from_bits _ _
    (λ k. bit_at_or (set_of p i) (2 ^ i) k ∙ ap (λ m. max m (bit_at (2 ^ i) k)) (bit-set p i k) ∙ turn-bits p i k e ∙ sym (bit-set p (i + 1) k))

miss-bits : (p : ℕ → Bool) (i k : ℕ) → p i ≡ false → cond (ltb k i) (p k) false ≡ cond (ltb k (i + 1)) (p k) false
miss-bits p i k e =
    by (ltb k i) (λ u. let lt = ltb-true k i u in rw (u, lt-ltb k (i + 1) (omega (arith, lt))) refl)
    (λ u. by (ltb k (i + 1)) (λ v. let a = ltb-false k i u in let b = ltb-true k (i + 1) v in let z : k ≡ i = omega (arith, a, b) in rw (z, e) (by (ltb i i) (λ s. rw s (by (ltb i (i + 1)) (λ r. rw r refl) (λ r. rw r refl))) (λ s. rw s (by (ltb i (i + 1)) (λ r. rw r refl) (λ r. rw r refl))))) (λ v. rw (u, v) refl))

pub set-miss : (p : ℕ → Bool) (i : ℕ) → p i ≡ false → set_of p i ≡ set_of p (i + 1)
set-miss p i e = same_from_bits _ _ (λ k. bit-set p i k ∙ ap (λ (b : Bool). cond b 1 0) (miss-bits p i k e) ∙ sym (bit-set p (i + 1) k))

pub set-none : (p : ℕ → Bool) → set_of p 0 ≡ 0
unfolding count_from
set-none p = refl

-- the same where what passes is looked up
pub hit : {w : ℕ} {b : Bool} (p : ℕ → Bool) (i : ℕ) → w ≡ set_of p i → b ≡ p i → b ≡ true → bit_or w (2 ^ i) ≡ set_of p (i + 1)
hit p i e a t = ap (λ k. bit_or k (2 ^ i)) e ∙ set-hit p i (sym a ∙ t)

pub miss : {w : ℕ} {b : Bool} (p : ℕ → Bool) (i : ℕ) → w ≡ set_of p i → b ≡ p i → b ≡ false → w ≡ set_of p (i + 1)
miss p i e a t = e ∙ set-miss p i (sym a ∙ t)

-- ---- a union, a member at a time
any-snoc : (f : ℕ → Bool) (l : List ℕ) (i : ℕ) → list_any f (l ++ (i ∷ [])) ≡ (list_any f l || f i)
any-snoc f [] i = by (f i) (λ t. rw t refl) (λ t. rw t refl)
any-snoc f (x ∷ l) i = by (f x) (λ t. rw t refl) (λ t. rw t (any-snoc f l i))

module _ (s : ℕ → Bool) (d : ℕ → ℕ → Bool) (n : ℕ) where
  -- what the first i of s have in d
  abbrev pub gathered : ℕ → ℕ
  gathered i = set_of (λ j. list_any (λ g. s g && d g j) (up_to i)) n

  pub gathered-none : 0 ≡ gathered 0
  unfolding count_from
  gathered-none = empty-all n
    where
      empty-all : (n : ℕ) → 0 ≡ set_of (λ j. false) n
      empty-all n = same_from_bits _ _ (λ i. bit_at-zero i ∙ (by (ltb i n) (λ t. rw t refl) (λ t. rw t refl)) ∙ sym (bit-set (λ j. false) n i))

  more : (i j : ℕ) → list_any (λ g. s g && d g j) (up_to (i + 1)) ≡ (list_any (λ g. s g && d g j) (up_to i) || (s i && d i j))
  more i j = ap (list_any (λ g. s g && d g j)) (up_more i) ∙ any-snoc (λ g. s g && d g j) (up_to i) i

  pub gathered-hit : {w : ℕ} (i : ℕ) → w ≡ gathered i → s i ≡ true → bit_or w (set_of (d i) n) ≡ gathered (i + 1)
  gathered-hit i e t =
      ap (λ k. bit_or k (set_of (d i) n)) e
      ∙ union-set (λ j. list_any (λ g. s g && d g j) (up_to i)) (d i) n
      ∙ set-ext _ _ n (λ j h. sym (more i j ∙ rw t refl))

  or-none : (b : Bool) → b ≡ (b || false)
  or-none true = refl
  or-none false = refl

  pub gathered-miss : {w : ℕ} (i : ℕ) → w ≡ gathered i → s i ≡ false → w ≡ gathered (i + 1)
  gathered-miss i e t = e ∙ set-ext _ _ n (λ j h. or-none _ ∙ sym (more i j ∙ rw t refl))

-- ---- the same, where only what is not yet in is tried
part : (p s q : Bool) → (p || ((s && not p) && q)) ≡ (p || (s && q))
part true s q = refl
part false true q = refl
part false false q = refl

part-none : (p s q : Bool) → (s && not p) ≡ false → p ≡ (p || (s && q))
part-none true s q e = refl
part-none false true q e = absurd (true≢false e)
part-none false false q e = refl

module _ (s : ℕ → Bool) (d : ℕ → ℕ → Bool) (n : ℕ) (few : n ≤ 96) (sub q : ℕ → Bool) (i : ℕ) (same : (j : ℕ) → j < n → d i j ≡ (sub j && q j)) where
  untried : {w m : ℕ} → w ≡ gathered s d n i → m ≡ bit_and (set_of sub n) (bit_not w128 w) → m ≡ set_of (λ j. sub j && not (list_any (λ g. s g && d g j) (up_to i))) n
  untried e f = f ∙ ap (λ k. bit_and (set_of sub n) (bit_not w128 k)) e ∙ without-set sub (λ j. list_any (λ g. s g && d g j) (up_to i)) n few

  pub gathered-part : {w m a : ℕ} → w ≡ gathered s d n i → s i ≡ true → m ≡ bit_and (set_of sub n) (bit_not w128 w) → a ≡ set_of (λ j. has_place m j && q j) n → bit_or w a ≡ gathered s d n (i + 1)
  gathered-part {w} {m} {a} e t f g =
      ap (λ k. bit_or k a) e
      ∙ ap (λ k. bit_or (gathered s d n i) k) g
      ∙ union-set (λ j. list_any (λ h. s h && d h j) (up_to i)) (λ j. has_place m j && q j) n
      ∙ set-ext _ _ n
      (λ j lt.
      ap (λ b. list_any (λ h. s h && d h j) (up_to i) || (b && q j)) (ap (λ k. has_place k j) (untried e f) ∙ has-set _ n j lt)
      ∙ part (list_any (λ h. s h && d h j) (up_to i)) (sub j) (q j)
      ∙ ap (λ b. list_any (λ h. s h && d h j) (up_to i) || b) (sym (same j lt)))
      ∙ sym (union-set (λ j. list_any (λ h. s h && d h j) (up_to i)) (d i) n)
      ∙ gathered-hit s d n i refl t

  pub gathered-empty : {w m : ℕ} → w ≡ gathered s d n i → s i ≡ true → m ≡ bit_and (set_of sub n) (bit_not w128 w) → nat_eq m 0 ≡ true → w ≡ gathered s d n (i + 1)
  gathered-empty {w} {m} e t f z =
      e
      ∙ set-ext _ _ n
      (λ j lt.
      part-none (list_any (λ h. s h && d h j) (up_to i)) (sub j) (q j)
      (sym (has-set (λ k. sub k && not (list_any (λ h. s h && d h k) (up_to i))) n j lt)
      ∙ ap (λ k. has_place k j) (sym (untried e f) ∙ eqb-true m 0 z)
      ∙ ap (λ k. nat_eq k 1) (bit_at-zero j))
      ∙ ap (λ b. list_any (λ h. s h && d h j) (up_to i) || b) (sym (same j lt))
      ∙ sym (more s d n i j ∙ rw t refl))

-- ---- a set that is shifted
pub shifted : {w : ℕ} (v j : ℕ) → w ≡ v / 2 ^ j → w / 2 ≡ v / 2 ^ (j + 1)
shifted v j e = ap (λ k. k / 2) e ∙ shr-shr v j 1

pub shifted-none : (v : ℕ) → v ≡ v / 2 ^ 0
shifted-none v = same_from_bits _ _ (λ i. sym (shr-shr-bit i))
  where
    shr-shr-bit : (i : ℕ) → bit_at (v / 2 ^ 0) i ≡ bit_at v i
    shr-shr-bit i = ap (λ k. k % 2) (shr-shr v 0 i ∙ ap (λ k. v / 2 ^ k) (zero-add i))

pub first-of : {w : ℕ} (v j : ℕ) → w ≡ v / 2 ^ j → has_place w 0 ≡ has_place v j
first-of v j e = ap (λ k. nat_eq (k % 2) 1) (ap (λ k. k / 2 ^ 0) e ∙ shr-shr v j 0 ∙ ap (λ k. v / 2 ^ k) (add-zero j))

-- ---- what a set answers
pub asked : {w : ℕ} (p : ℕ → Bool) (n i : ℕ) → w ≡ set_of p n → i < n → n ≤ 96 → (nat_lt i 96 && has_place w i) ≡ p i
asked p n i e h few = rw (e, lt-ltb i 96 (omega arith)) (has-set p n i h)

pub none-left : {w : ℕ} (p : ℕ → Bool) (n : ℕ) → w ≡ set_of p n → nat_eq w 0 ≡ not (list_any p (up_to n))
none-left p n e = ap (λ k. nat_eq k 0) e ∙ empty-set p n

-- what the front of a set answers that was shifted
pub asked-first : {w v : ℕ} (p : ℕ → Bool) (n j : ℕ) → v ≡ set_of p n → j < n → w ≡ v / 2 ^ j → has_place w 0 ≡ p j
asked-first {w} {v} p n j e h q = first-of v j q ∙ ap (λ (k : ℕ). has_place k j) e ∙ has-set p n j h
