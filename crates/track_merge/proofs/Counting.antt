-- Which members of a list pass a test: none, one, or several; and where the first is.
use Prim.Native.Nat.{ℕ, zero, suc, ◌+◌, ◌≤◌, ◌<◌}
use mathlib.Core.Path.{◌≡◌, refl, sym, ap, ◌∙◌}
use mathlib.Core.Bool.{Bool, true, false, cond}
use mathlib.Core.List.{List, [], ◌∷◌, map}
use native.Mathlib.Omega.{arith}
use native.Mathlib.Numerals.{add-one}
use mathlib.Core.Logic.{◌⊎◌, inl, inr}
use borrow.Author.Tests.{lt-ltb, le-ltb}
use lib.ListN.{length, get_or, take, drop, set}
use lib.Seq.{length-take-le}
use Rattle.std.proofs.lemmas.List.{get_or-take}
use Rattle.std.specs.Option.{unwrap_or}
use Rattle.fixes.proofs.Indexed.{at_in}
use Rattle.std.specs.Prelude.{Option, Some, None, position}
use Rattle.std.proofs.lemmas.List.Sums.{position_or_len_is}
use Rattle.std.proofs.lemmas.List.Quantifiers.{position-Some}
use Rattle.std.specs.List.{filter, list_any}
use Rattle.lists.proofs.Bools.{by, clash}
use Rattle.lists.proofs.Lists.{any-no, filter_none}
use Rattle.track_normalize.proofs.Gathered.{none-of}
use Rattle.track_merge.specs.Searching.{only}

module _ {A : Type 0} (test : A → Bool) where
  -- all that pass, by the first that does
  passing : (l : List A) (i : ℕ) (d : A) → i < length l → test (get_or l i d) ≡ true → ((k : ℕ) → k < i → test (get_or l k d) ≡ false) → filter test l ≡ get_or l i d ∷ filter test (drop (suc i) l)
  passing [] i d h e p = absurd (omega arith)
  passing (x ∷ l) zero d h e p = rw e refl
  passing (x ∷ l) (suc i) d h e p = rw (p 0 (omega arith)) (passing l i d (omega arith) e (λ k m. p (suc k) (omega arith)))

  -- y in the place of what passes
  replaced-none : (y : A) (l : List A) → list_any test l ≡ false → map (λ x. cond (test x) y x) l ≡ l
  replaced-none y [] a = refl
  replaced-none y (x ∷ l) a =
      by (test x)
      (λ t. clash refl (rw t at a))
      (λ t. rw t (ap (λ (k : List A). x ∷ k) (replaced-none y l (rw t at a))))

  replaced-one : (y : A) (l : List A) (i : ℕ) (d : A) → i < length l → test (get_or l i d) ≡ true → ((k : ℕ) → k < i → test (get_or l k d) ≡ false) → list_any test (drop (suc i) l) ≡ false
      → map (λ x. cond (test x) y x) l ≡ set l i y
  replaced-one y [] i d h e p b = absurd (omega arith)
  replaced-one y (x ∷ l) zero d h e p b = rw e (ap (λ (k : List A). y ∷ k) (replaced-none y l b))
  replaced-one y (x ∷ l) (suc i) d h e p b = rw (p 0 (omega arith)) (ap (λ (k : List A). x ∷ k) (replaced-one y l i d (omega arith) e (λ k m. p (suc k) (omega arith)) b))

  -- ---- where the first is

  place-is : (l : List A) (i : ℕ) (d : A) → i < length l → test (get_or l i d) ≡ true → ((k : ℕ) → k < i → test (get_or l k d) ≡ false) → position test l ≡ Some i
  place-is l i d h e p = let q = position_or_len_is test l i d (omega arith) p (λ k. e) in rw (q, lt-ltb i (length l) h) refl

  -- among the first n
  pub place-among : (l : List A) (n i : ℕ) (d : A) → i < n → n ≤ length l → test (get_or l i d) ≡ true → ((k : ℕ) → k < i → test (get_or l k d) ≡ false)
      → position test (take n l) ≡ Some i
  place-among l n i d h m e p =
      place-is (take n l) i d (omega (arith, length-take-le n l m)) (ap test (get_or-take n l i d h) ∙ e) (λ k q. ap test (get_or-take n l k d (omega arith)) ∙ p k q)

  pub none-among : (l : List A) (n : ℕ) (d : A) → n ≤ length l → ((k : ℕ) → k < n → test (get_or l k d) ≡ false) → position test (take n l) ≡ None
  none-among l n d m p =
      let e = length-take-le n l m in
      let q = position_or_len_is test (take n l) n d (omega (arith, e)) (λ k h. ap test (get_or-take n l k d h) ∙ p k h) (λ h. absurd (omega (arith, e))) in
      rw (q, le-ltb n (length (take n l)) (omega (arith, e))) refl

  -- the first before one that passes, or that one
  pub first-or : (l : List A) (k : ℕ) (d : A) → k < length l → test (get_or l k d) ≡ true → (o : Option ℕ) → o ≡ position test (take k l) → position test l ≡ Some (unwrap_or o k)
  first-or l k d h e (Some i) q =
      let n : length (take k l) ≡ k = length-take-le k l (omega arith) in
      let s = position-Some test (take k l) i d (sym q) in
      place-is l i d (omega (arith, n, s.0)) (ap test (sym (get_or-take k l i d (omega (arith, n, s.0)))) ∙ s.1) (λ j m. ap test (sym (get_or-take k l j d (omega (arith, n, s.0)))) ∙ s.2 j m)
  first-or l k d h e None q =
      let n : length (take k l) ≡ k = length-take-le k l (omega arith) in
      place-is l k d h e
      (λ j m. ap test (sym (get_or-take k l j d m)) ∙ any-no test (take k l) (get_or (take k l) j d) (none-of test (take k l) (sym q)) (at_in d (take k l) j (omega (arith, n))))

  none-front : (l : List A) (i : ℕ) (d : A) → i ≤ length l → ((k : ℕ) → k < i → test (get_or l k d) ≡ false) → list_any test (take i l) ≡ false
  none-front l zero d h p = refl
  none-front [] (suc i) d h p = absurd (omega arith)
  none-front (x ∷ l) (suc i) d h p = rw (p 0 (omega arith)) (none-front l i d (omega arith) (λ k m. p (suc k) (omega arith)))

  -- at this place is the first that passes
  pub record First (l : List A) (i : ℕ) (d : A) : Type 0 where
    pub there : i < length l
    pub before : list_any test (take i l) ≡ false
    pub here : test (get_or l i d) ≡ true

  pub first-at : (l : List A) (i : ℕ) (d : A) → position test l ≡ Some i → First l i d
  first-at l i d e = let s = position-Some test l i d e in record { there = s.0; before = none-front l i d (omega (arith, s.0)) s.2; here = s.1 }

  -- it alone passes
  pub record Alone (l : List A) (i : ℕ) (d : A) : Type 0 where
    pub there : i < length l
    pub passes : filter test l ≡ get_or l i d ∷ []
    pub replaced : (y : A) → map (λ x. cond (test x) y x) l ≡ set l i y

  pub alone-at : (l : List A) (i : ℕ) (d : A) → only test l ≡ Some i → Alone l i d
  alone-at l i d e = go (position test l) refl
    where
      last : (j : ℕ) → position test l ≡ Some j → (o : Option ℕ) → position test (drop (j + 1) l) ≡ o → Alone l i d
      last j p None q =
          let z : j ≡ i = let r = rw (p, q) at e in cc in
          let s = position-Some test l i d (p ∙ ap Some z) in
          let b : list_any test (drop (suc i) l) ≡ false = none-of test (drop (suc i) l) (ap (λ (k : ℕ). position test (drop k l)) (sym (add-one i) ∙ ap (λ (k : ℕ). k + 1) (sym z)) ∙ q) in
          record {
            there = s.0;
            passes = passing l i d s.0 s.1 s.2 ∙ ap (λ (r : List A). get_or l i d ∷ r) (filter_none test (drop (suc i) l) b);
            replaced = λ y. replaced-one y l i d s.0 s.1 s.2 b;
          }
      last j p (Some k) q = absurd (let r = rw (p, q) at e in cc)

      go : (o : Option ℕ) → position test l ≡ o → Alone l i d
      go None p = absurd (let r = rw p at e in cc)
      go (Some j) p = last j p (position test (drop (j + 1) l)) refl

  -- several pass
  pub record Several (l : List A) : Type 0 where
    pub one : A
    pub other : A
    pub rest : List A
    pub are : filter test l ≡ one ∷ (other ∷ rest)

  -- none or several do
  pub none-alone : (l : List A) (d : A) → only test l ≡ None → (filter test l ≡ []) ⊎ Several l
  none-alone l d e = go (position test l) refl
    where
      last : (j : ℕ) → position test l ≡ Some j → (o : Option ℕ) → position test (drop (j + 1) l) ≡ o → (filter test l ≡ []) ⊎ Several l
      last j p None q = absurd (let r = rw (p, q) at e in cc)
      last j p (Some k) q =
          let a = position-Some test l j d p in
          let b = position-Some test (drop (j + 1) l) k d q in
          let behind = ap (λ (n : ℕ). filter test (drop n l)) (sym (add-one j)) ∙ passing (drop (j + 1) l) k d b.0 b.1 b.2 in
          inr (record { one = get_or l j d; other = get_or (drop (j + 1) l) k d; rest = filter test (drop (suc k) (drop (j + 1) l)); are = passing l j d a.0 a.1 a.2 ∙ ap (λ (r : List A). get_or l j d ∷ r) behind })

      go : (o : Option ℕ) → position test l ≡ o → (filter test l ≡ []) ⊎ Several l
      go None p = inl (filter_none test l (none-of test l p))
      go (Some j) p = last j p (position test (drop (j + 1) l)) refl
