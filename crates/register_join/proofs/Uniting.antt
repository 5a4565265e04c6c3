-- Laws of united tables and of sets of engines without another, for every key width.
use Rattle.std.proofs.Common.{ℕ, zero, suc, ◌+◌, ◌/◌, ◌%◌, ◌≤◌, ◌<◌, ◌≡◌, refl, Bool, true, false, cond, not, ◌&&◌, ◌||◌, List, [], ◌∷◌, ◌++◌, arith, length, take, drop, length-drop, length-take-le}
use lib.Bits.{bit_and}
use Rattle.std.specs.Int.Bits.{bit_xor, xor_step, differ}
use Rattle.std.specs.List.{list_all}
use Rattle.lists.proofs.Bools.{and_left, and_right}
use Rattle.octets.specs.Masks.{bit}
use Rattle.octets.specs.Order.{same}
use Rattle.octets.proofs.Comparison.{before-irrefl, same-eq}
use Rattle.octets.proofs.Lookup.{bit-and}
use Rattle.tables.specs.Places.{ascending, holds, lookup, put_place}
use Rattle.tables.proofs.Tables.{wide}
use Rattle.tables.proofs.Keys.{from-ascending, none_below}
use Rattle.tables.proofs.Putting.{holds-put, lookup-put, lookup-put-other, put-ascending, put-wide, put_all}
use Rattle.register_join.specs.Join.{united, without_bits}

-- ---- sets

one-bit : (a b : ℕ) → a < 2 → b < 2 → differ a b < 2
one-bit a b h g = grind arith

pub bit-xor : (a b k : ℕ) → bit (bit_xor a b) k ≡ cond (bit a k) (not (bit b k)) (bit b k)
unfolding bit
bit-xor a b zero = grind (arith, xor_step a b)
bit-xor a b (suc k) = let p : bit_xor a b / 2 ≡ bit_xor (a / 2) (b / 2) = omega (arith, xor_step a b, one-bit (a % 2) (b % 2) (omega arith) (omega arith)) in rw p (bit-xor (a / 2) (b / 2) k)

pub bit-without : (m c k : ℕ) → bit (without_bits m c) k ≡ (bit m k && not (bit c k))
unfolding without_bits
bit-without m c k = grind (arith, bit-xor m (bit_and m c) k, bit-and m c k)

-- ---- tables

module _ (k w : ℕ) (m : k ≤ w) (f : List ℕ → List ℕ → List ℕ) where
  -- one place put in
  abbrev with-first : List ℕ → List (List ℕ) → List (List ℕ)
  with-first p qs = put_place k (f (drop k p)) (take k p) qs

  module _ (p : List ℕ) (l : length p ≡ w) where
    key-long : length (take k p) ≡ k
    key-long = length-take-le k p (omega arith)

    first-holds : (key : List ℕ) (qs : List (List ℕ)) → holds k key (with-first p qs) ≡ (same (take k p) key || holds k key qs)
    first-holds key qs = holds-put k (f (drop k p)) (take k p) key-long key qs

    first-lookup : (qs : List (List ℕ)) → ascending k qs ≡ true → lookup k (take k p) (with-first p qs) ≡ f (drop k p) (lookup k (take k p) qs)
    first-lookup qs a = lookup-put k (f (drop k p)) (take k p) key-long qs a

    first-other : (key : List ℕ) (qs : List (List ℕ)) → same (take k p) key ≡ false → lookup k key (with-first p qs) ≡ lookup k key qs
    first-other key qs s = lookup-put-other k (f (drop k p)) (take k p) key-long key qs s

    first-ascending : (qs : List (List ℕ)) → ascending k qs ≡ true → ascending k (with-first p qs) ≡ true
    first-ascending qs a = put-ascending k (f (drop k p)) (take k p) key-long qs a

  -- held are the keys of both
  pub united-holds : (key : List ℕ) (ps qs : List (List ℕ)) → wide w ps → holds k key (united k f ps qs) ≡ (holds k key ps || holds k key qs)
  unfolding united holds
  united-holds key [] qs x = refl
  united-holds key (p ∷ ps) qs x = grind (arith, united-holds key ps (with-first p qs), first-holds p x.0 key qs)

  pub united-ascending : (ps qs : List (List ℕ)) → wide w ps → ascending k qs ≡ true → ascending k (united k f ps qs) ≡ true
  unfolding united
  united-ascending [] qs x a = a
  united-ascending (p ∷ ps) qs x a = united-ascending ps (with-first p qs) x.1 (first-ascending p x.0 qs a)

  -- what follows a key that the first table has is f of what follows it in both
  pub united-lookup : (key : List ℕ) (ps qs : List (List ℕ)) → wide w ps → ascending k ps ≡ true → ascending k qs ≡ true
      → lookup k key (united k f ps qs) ≡ cond (holds k key ps) (f (lookup k key ps) (lookup k key qs)) (lookup k key qs)
  unfolding united holds lookup ascending
  united-lookup key [] qs x a b = refl
  united-lookup key (p ∷ ps) qs x a b = grind (
    arith,
    united-lookup key ps (with-first p qs),
    from-ascending k (take k p) ps,
    first-ascending p x.0 qs b,
    first-lookup p x.0 qs b,
    first-other p x.0 key qs,
    same-eq (take k p) key,
    before-irrefl key,
    none_below k key (take k p) ps,
  )

  pub united-wide : ((u v : List ℕ) → k + length u ≡ w → length v ≡ 0 → k + length (f u v) ≡ w) → ((u v : List ℕ) → k + length u ≡ w → k + length v ≡ w → k + length (f u v) ≡ w)
      → (ps qs : List (List ℕ)) → wide w ps → wide w qs → wide w (united k f ps qs)
  unfolding united
  united-wide g h [] qs x y = y
  united-wide g h (p ∷ ps) qs x y =
      let u : k + length (drop k p) ≡ w = (let e = x.0 in rw length-drop (omega arith)) in
      united-wide g h ps (with-first p qs) x.1 (put-wide k (f (drop k p)) (take k p) (key-long p x.0) w (λ v. g (drop k p) v u) (λ v. h (drop k p) v u) qs m y)

  -- a test that each place of both passes, and each pair of places with one key once they are united
  pub united_all : (test : List ℕ → Bool) → ((p : List ℕ) → test p ≡ true → test (take k p ++ f (drop k p) []) ≡ true)
      → ((p q : List ℕ) → take k q ≡ take k p → test p ≡ true → test q ≡ true → test (take k q ++ f (drop k p) (drop k q)) ≡ true)
      → (ps qs : List (List ℕ)) → list_all test ps ≡ true → list_all test qs ≡ true → list_all test (united k f ps qs) ≡ true
  unfolding united
  united_all test g h [] qs a b = b
  united_all test g h (p ∷ ps) qs a b =
      let t : test p ≡ true = and_left (test p) (list_all test ps) a in
      united_all test g h ps (with-first p qs) (and_right (test p) (list_all test ps) a) (put_all k (f (drop k p)) (take k p) test qs (g p t) (λ q e z. h p q e t z) b)
