-- What a walk through two tables of one kind takes first, for every width and kind.
use Rattle.std.proofs.Common.{ℕ, ◌^◌, ◌<◌, ◌≡◌, refl, ap, ◌∙◌, Bool, true, false, cond, not, List, [], ◌∷◌, ◌++◌, arith, eqb, eqb-true, length, take, drop}
use lib.Bits.{bit_or}
use Rattle.lists.proofs.Bools.{by}
use Rattle.octets.specs.Order.{is_before}
use Rattle.octets.proofs.Comparison.{before_same}
use Rattle.octets.proofs.Lookup.{bit-zero, bit-ext, bit-or}
use Rattle.tables.specs.Places.{ascending_from, ascending, keep_places}
use Rattle.tables.proofs.Tables.{wide}
use Rattle.register_join.specs.Join.{united}
use Rattle.register_join.specs.Merged.{Lawful, together, left_before}
use Rattle.register_join.proofs.Walking.{turn-mine, turn-theirs, turn-both}
use Rattle.register_join.proofs.Firsts.{turned-test, none-after, all-after, behind-first, split-wide}

pub or-nothing : (m : ℕ) → bit_or m 0 ≡ m
or-nothing m = bit-ext (bit_or m 0) m (λ k. grind (arith, bit-or m 0 k, bit-zero k))

nothing-or : (m : ℕ) → bit_or 0 m ≡ m
nothing-or m = bit-ext (bit_or 0 m) m (λ k. grind (arith, bit-or 0 m k, bit-zero k))

or-none : (m n : ℕ) → eqb m 0 ≡ false → eqb (bit_or m n) 0 ≡ false
or-none m n h = by (eqb (bit_or m n) 0) (λ z. absurd (grind (arith, none z))) (λ z. z)
  where
    none : eqb (bit_or m n) 0 ≡ true → m ≡ 0
    none z = bit-ext m 0 (λ k. grind (arith, bit-or m n k, bit-zero k))

-- what two tables leave of a key: of both, of one, or nothing
both-left : (placed : ℕ → List ℕ) (n m : ℕ) (u v w : List ℕ) (ps : List (List ℕ)) → u ≡ placed (bit_or n m) → v ≡ placed n → w ≡ placed m
    → cond (not (eqb n 0)) (cond (not (eqb m 0)) (u ∷ ps) (v ∷ ps)) (cond (not (eqb m 0)) (w ∷ ps) ps) ≡ cond (eqb (bit_or n m) 0) ps (placed (bit_or n m) ∷ ps)
both-left placed n m u v w ps e f g =
    by (eqb n 0)
    (λ i. by (eqb m 0) (λ j. rw (eqb-true n 0 i, eqb-true m 0 j) refl) (λ j. rw (eqb-true n 0 i, nothing-or m, j, g) refl))
    (λ i. by (eqb m 0)
    (λ j. rw (i, f, eqb-true m 0 j, or-nothing n, i) refl)
    (λ j. rw (i, j, or-none n m i, e) refl))

module _ (k w : ℕ) (merge : List ℕ → List ℕ → List ℕ) (test : ℕ → List ℕ → Bool) (change : ℕ → List ℕ → List ℕ) (left : ℕ → List ℕ → ℕ) (placed : List ℕ → ℕ → List ℕ)
    (law : Lawful k w merge test change left placed) (d c : ℕ) (mine theirs : List (List ℕ)) (x : wide w mine) (y : wide w theirs) (a : ascending k mine ≡ true) (b : ascending k theirs ≡ true) where
  abbrev all : List (List ℕ) → List (List ℕ) → List (List ℕ)
  all ps qs = together k merge test change d ps c qs

  pub none-left : length mine ≡ 0 → length theirs ≡ 0 → all mine theirs ≡ []
  unfolding united keep_places
  none-left e f = go mine theirs e f
    where
      go : (ps qs : List (List ℕ)) → length ps ≡ 0 → length qs ≡ 0 → all ps qs ≡ []
      go [] [] e f = refl
      go [] (q ∷ qs) e f = absurd (omega arith)
      go (p ∷ ps) qs e f = absurd (omega arith)

  module _ (p : List ℕ) (ps : List (List ℕ)) (mine-is : mine ≡ p ∷ ps) (m : ℕ) (m-is : m ≡ left d p) where
    abbrev v : (length p ≡ w) × wide w ps
    v = split-wide w mine p ps mine-is x

    first-mine : ascending_from k (take k p) theirs ≡ true → all mine theirs ≡ left_before k placed p m (all ps theirs)
    first-mine f =
        ap (λ (l : List (List ℕ)). all l theirs) mine-is
        ∙ turn-mine k w law.narrow merge (test c) (change c) (test d) (change d) (law.fits c) (law.fits d) ps theirs v.1 y p v.0 f
        ∙ rw (law.stays d p, law.one d p, m-is) (turned-test (eqb (left d p) 0) (placed (take k p) (left d p) ∷ all ps theirs) (all ps theirs))

    pub mine-alone : length theirs ≡ 0 → all mine theirs ≡ left_before k placed p m (all ps theirs)
    mine-alone e = first-mine (none-after k (take k p) theirs e)

    pub mine-before : (q : List ℕ) (qs : List (List ℕ)) → theirs ≡ q ∷ qs → is_before (take k p) (take k q) ≡ true → all mine theirs ≡ left_before k placed p m (all ps theirs)
    mine-before q qs e h = first-mine (all-after k (take k p) theirs q qs e b h)

  module _ (q : List ℕ) (qs : List (List ℕ)) (theirs-is : theirs ≡ q ∷ qs) (n : ℕ) (n-is : n ≡ left c q) (small : n < 2 ^ 32) where
    abbrev w' : (length q ≡ w) × wide w qs
    w' = split-wide w theirs q qs theirs-is y

    small-left : left c q < 2 ^ 32
    small-left = omega arith

    first-theirs : ascending_from k (take k q) mine ≡ true → all mine theirs ≡ left_before k placed q n (all mine qs)
    first-theirs f =
        ap (λ (l : List (List ℕ)). all mine l) theirs-is
        ∙ turn-theirs k w law.narrow merge (test c) (change c) (test d) (change d) (law.fits c) (law.fits d) mine qs x w'.1 q w'.0 (behind-first k theirs q qs theirs-is b) f
        ∙ rw (law.stays c q, law.alone c q small-left, n-is) (turned-test (eqb (left c q) 0) (placed (take k q) (left c q) ∷ all mine qs) (all mine qs))

    pub theirs-alone : length mine ≡ 0 → all mine theirs ≡ left_before k placed q n (all mine qs)
    theirs-alone e = first-theirs (none-after k (take k q) mine e)

    pub theirs-before : (p : List ℕ) (ps : List (List ℕ)) → mine ≡ p ∷ ps → is_before (take k q) (take k p) ≡ true → all mine theirs ≡ left_before k placed q n (all mine qs)
    theirs-before p ps e h = first-theirs (all-after k (take k q) mine p ps e a h)

    pub both-first : (p : List ℕ) (ps : List (List ℕ)) → mine ≡ p ∷ ps → (m : ℕ) → m ≡ left d p → m < 2 ^ 32
        → is_before (take k p) (take k q) ≡ false → is_before (take k q) (take k p) ≡ false
        → all mine theirs ≡ left_before k placed p (bit_or n m) (all ps qs)
    both-first p ps e m m-is tiny h g =
        let v = split-wide w mine p ps e x in
        let s : take k p ≡ take k q = before_same (take k p) (take k q) h g in
        let tiny-left : left d p < 2 ^ 32 = omega arith in
        ap (λ (l : List (List ℕ)). all l theirs) e
        ∙ ap (λ (l : List (List ℕ)). all (p ∷ ps) l) theirs-is
        ∙ turn-both k w law.narrow merge (test c) (change c) (test d) (change d) (law.fits c) (law.fits d) ps qs v.1 w'.1 q w'.0
        (behind-first k theirs q qs theirs-is b) p v.0 s (behind-first k mine p ps e a)
        ∙ rw (law.stays c q, law.stays d p, n-is, m-is)
        (both-left (placed (take k p)) (left c q) (left d p) (take k p ++ merge (change c (drop k q)) (change d (drop k p))) (take k p ++ merge (change c (drop k q)) []) (take k p ++ change d (drop k p)) (all ps qs)
        (law.both c d q p small-left tiny-left) (rw s (law.alone c q small-left)) (law.one d p))

-- where something is left, the place comes first
pub with-left : (k : ℕ) (placed : List ℕ → ℕ → List ℕ) (p : List ℕ) (m : ℕ) (ps : List (List ℕ)) → (m ≡ 0 → ⊥) → left_before k placed p m ps ≡ placed (take k p) m ∷ ps
with-left k placed p m ps h = by (eqb m 0) (λ z. absurd (h (eqb-true m 0 z))) (λ z. rw z refl)
