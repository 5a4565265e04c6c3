-- Laws of marks: what a store and visits leave marked, and how many are left without a mark.
use Rattle.std.proofs.lemmas.Grind.{common_steps}
use Rattle.std.proofs.Common.{◌≡◌, refl, sym, ap, ◌∙◌, Bool, true, false, cond, ◌⊎◌, inl, inr, List, [], ◌∷◌, ℕ, zero, suc, ◌+◌, ◌-◌, ◌≤◌, ◌<◌, arith, add-one, length, set, replicate, length-set}
use native.Mathlib.Nat.{sub-zero}
use Rattle.lists.proofs.Bools.{by, or}
use Rattle.lists.specs.Tables.{marked}
use Rattle.board_transmissions.specs.Walk.{unmarked, each, visit}

-- ---- a store

-- one mark more, one fewer without
pub unmarked-set : (m : List Bool) (j : ℕ) → j < length m → marked m j ≡ false → unmarked m ≡ suc (unmarked (set m j true))
unfolding unmarked
unmarked-set [] j h e = absurd (omega arith)
unmarked-set (b ∷ m) zero h e = grind arith
unmarked-set (b ∷ m) (suc j) h e = grind (arith, unmarked-set m j)

set-fewer : (m : List Bool) (j : ℕ) → unmarked (set m j true) ≤ unmarked m
unfolding unmarked
set-fewer [] j = omega arith
set-fewer (b ∷ m) zero = omega arith
set-fewer (b ∷ m) (suc j) = grind (arith, set-fewer m j)

set_keeps : (m : List Bool) (j i : ℕ) → marked m i ≡ true → marked (set m j true) i ≡ true
set_keeps [] j i e = e
set_keeps (a ∷ m) zero zero e = refl
set_keeps (a ∷ m) (suc j) zero e = e
set_keeps (a ∷ m) zero (suc i) e = e
set_keeps (a ∷ m) (suc j) (suc i) e = set_keeps m j i e

-- what is marked after a store was marked before, or is what was stored
pub set-marks : (m : List Bool) (i j : ℕ) (b : Bool) → marked (set m j b) i ≡ true → ((i ≡ j) × (b ≡ true)) ⊎ (marked m i ≡ true)
set-marks [] i j b e = inr e
set-marks (a ∷ m) zero zero b e = inl (refl, e)
set-marks (a ∷ m) zero (suc j) b e = inr e
set-marks (a ∷ m) (suc i) zero b e = inr e
set-marks (a ∷ m) (suc i) (suc j) b e = or (set-marks m i j b e) (λ q. inl (ap suc q.0, q.1)) (λ q. inr q)

pub no-marks : (n i : ℕ) → marked (replicate n false) i ≡ false
no-marks n i = grind (arith, common_steps)

-- ---- marks are only added

pub record Grown (m r : List Bool) : Type 0 where
  pub same : length r ≡ length m
  pub kept : (k : ℕ) → marked m k ≡ true → marked r k ≡ true
  pub fewer : unmarked r ≤ unmarked m

pub grown-none : (m : List Bool) → Grown m m
grown-none m = record { same = refl; kept = λ k e. e; fewer = omega arith }

pub grown-more : (m r q : List Bool) → Grown m r → Grown r q → Grown m q
grown-more m r q a b = record {
  same = b.same ∙ a.same;
  kept = λ k e. b.kept k (a.kept k e);
  fewer = let x = a.fewer in let y = b.fewer in omega arith;
}

pub grown-set : (m : List Bool) (i : ℕ) → Grown m (set m i true)
grown-set m i = record { same = length-set m i true; kept = λ k e. set_keeps m i k e; fewer = set-fewer m i }

-- ---- a visit of each

module _ (v : ℕ → List Bool → List Bool) (g : ℕ → Bool) where
  -- the marks after index j
  abbrev pub next : List Bool → ℕ → List Bool
  next m j = cond (marked m j) m (cond (g j) (v j m) m)

  pub next-old : (m : List Bool) (j : ℕ) → marked m j ≡ true → next m j ≡ m
  next-old m j p = rw p refl

  pub next-apart : (m : List Bool) (j : ℕ) → marked m j ≡ false → g j ≡ false → next m j ≡ m
  next-apart m j p q = rw (p, q) refl

  pub next-new : (m : List Bool) (j : ℕ) → marked m j ≡ false → g j ≡ true → next m j ≡ v j m
  next-new m j p q = rw (p, q) refl

  pub each_start : (m : List Bool) (n : ℕ) → each v g m 0 n ≡ each v g m 0 (n - 0)
  each_start m n = rw sub-zero refl

  -- a turn of the loop that visits: x is what all turns come to, r the marks after this one
  pub each_turn : (x m r : List Bool) (j n : ℕ) → x ≡ each v g m j (n - j) → j < n → r ≡ next m j → x ≡ each v g r (j + 1) (n - (j + 1))
  unfolding each
  each_turn x m r j n e h p = e ∙ (let z : n - j ≡ suc (n - (j + 1)) = omega arith in rw (z, add-one, p) refl)

  pub each-old : (x m : List Bool) (j n : ℕ) → x ≡ each v g m j (n - j) → j < n → marked m j ≡ true → x ≡ each v g m (j + 1) (n - (j + 1))
  each-old x m j n e h p = each_turn x m m j n e h (sym (next-old m j p))

  pub each-apart : (x m r : List Bool) (j n : ℕ) (b : Bool) → x ≡ each v g m j (n - j) → j < n → marked m j ≡ false → b ≡ g j → b ≡ false → r ≡ m → x ≡ each v g r (j + 1) (n - (j + 1))
  each-apart x m r j n b e h p q z o = each_turn x m r j n e h (o ∙ sym (next-apart m j p (sym q ∙ z)))

  pub each-end : (x m : List Bool) (j n : ℕ) → x ≡ each v g m j (n - j) → n ≤ j → m ≡ x
  unfolding each
  each-end x m j n e h = let z : n - j ≡ 0 = omega arith in sym (e ∙ rw z refl)

  module _ (grows : (j : ℕ) (m : List Bool) → Grown m (v j m)) where
    pub next-grown : (m : List Bool) (j : ℕ) → Grown m (next m j)
    next-grown m j = by (marked m j) (λ p. rw p (grown-none m)) (λ p. by (g j) (λ q. rw (p, q) (grows j m)) (λ q. rw (p, q) (grown-none m)))

    each-grown : (k : ℕ) (m : List Bool) (j : ℕ) → Grown m (each v g m j k)
    unfolding each
    each-grown zero m j = grown-none m
    each-grown (suc k) m j = grown-more m (next m j) _ (next-grown m j) (each-grown k (next m j) (suc j))

    -- two visits that agree on tables of l places with at most u unmarked
    module _ (l u : ℕ) (w : ℕ → List Bool → List Bool)
        (agree : (j : ℕ) (m : List Bool) → length m ≡ l → j < l → marked m j ≡ false → unmarked m ≤ u → v j m ≡ w j m) where
      pub each_same : (k : ℕ) (m : List Bool) (j : ℕ) → length m ≡ l → j + k ≤ l → unmarked m ≤ u → each v g m j k ≡ each w g m j k
      unfolding each
      each_same zero m j a b c = refl
      each_same (suc k) m j a b c =
          let r = next-grown m j in
          let f = r.fewer in
          each_same k (next m j) (suc j) (r.same ∙ a) (omega arith) (omega arith) ∙ ap (λ (x : List Bool). each w g x (suc j) k) (grind (arith, agree j m))

-- ---- a visit

module _ (link : ℕ → ℕ → Bool) (n : ℕ) where
  pub visit-grown : (f i : ℕ) (m : List Bool) → Grown m (visit link n f i m)
  unfolding visit
  visit-grown zero i m = grown-none m
  visit-grown (suc f) i m = grown-more m (set m i true) _ (grown-set m i) (each-grown (visit link n f) (link i) (visit-grown f) n (set m i true) 0)

  -- any two numbers will do, from the number without a mark on
  pub visit-same : (f h i : ℕ) (m : List Bool) → n ≤ length m → i < length m → marked m i ≡ false → unmarked m ≤ f → unmarked m ≤ h → visit link n f i m ≡ visit link n h i m
  unfolding visit
  visit-same zero h i m w l e a b = let z = unmarked-set m i l e in absurd (omega arith)
  visit-same (suc f) zero i m w l e a b = let z = unmarked-set m i l e in absurd (omega arith)
  visit-same (suc f) (suc h) i m w l e a b =
      let z = unmarked-set m i l e in
      each_same (visit link n f) (link i) (visit-grown f) (length m) (unmarked (set m i true)) (visit link n h)
      (λ j r p q d c. visit-same f h j r (omega arith) (omega arith) d (omega arith) (omega arith))
      n (set m i true) 0 (length-set m i true) (omega arith) (omega arith)

  -- a visit is a mark, and a visit of each
  pub visit-is : (i : ℕ) (m : List Bool) → i < length m → marked m i ≡ false → visit link n (unmarked m) i m ≡ each (visit link n (unmarked (set m i true))) (link i) (set m i true) 0 n
  unfolding visit
  visit-is i m l e = let z = unmarked-set m i l e in rw z refl

  -- a turn of its loop, with a visit of j
  pub each-new : (u i j : ℕ) (x m r : List Bool) (b : Bool) → x ≡ each (visit link n u) (link i) m j (n - j) → n ≤ length m → unmarked m ≤ u → j < n → marked m j ≡ false → b ≡ link i j → b ≡ true → r ≡ visit link n (unmarked m) j m → x ≡ each (visit link n u) (link i) r (j + 1) (n - (j + 1))
  each-new u i j x m r b e w c h p q z o =
      each_turn (visit link n u) (link i) x m r j n e h
      (o ∙ visit-same (unmarked m) u j m w (omega arith) p (omega arith) c ∙ sym (next-new (visit link n u) (link i) m j p (sym q ∙ z)))

  -- r is what a visit made of m
  pub visited-grown : (f i : ℕ) (m r : List Bool) → r ≡ visit link n f i m → Grown m r
  visited-grown f i m r e = rw e (visit-grown f i m)
