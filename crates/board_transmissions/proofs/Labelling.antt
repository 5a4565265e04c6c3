-- Laws of the table of labels: what visits write into it.
use Rattle.std.proofs.Common.{◌≡◌, refl, sym, ap, ◌∙◌, Bool, true, false, cond, List, [], ◌∷◌, ℕ, zero, suc, ◌<◌, arith, length, get_or, set}
use Rattle.lists.specs.Tables.{marked}
use Rattle.board_transmissions.specs.Labels.{relabel}
use Rattle.board_transmissions.proofs.Marks.{Grown, grown-none, grown-set, grown-more}

-- ---- what one visit writes

module _ (s : ℕ) where
  pub relabel-length : (m r : List Bool) (l : List ℕ) → length (relabel s m r l) ≡ length l
  unfolding relabel
  relabel-length m r [] = refl
  relabel-length [] r (x ∷ l) = refl
  relabel-length (a ∷ m) [] (x ∷ l) = refl
  relabel-length (a ∷ m) (b ∷ r) (x ∷ l) = ap suc (relabel-length m r l)

  -- with no mark more, nothing is written
  pub relabel-none : (m : List Bool) (l : List ℕ) → relabel s m m l ≡ l
  unfolding relabel
  relabel-none m [] = refl
  relabel-none [] (x ∷ l) = refl
  relabel-none (b ∷ m) (x ∷ l) = grind (arith, relabel-none m l)

  -- with one mark more, its place is
  pub relabel-set : (m : List Bool) (l : List ℕ) (i : ℕ) → i < length m → marked m i ≡ false → relabel s m (set m i true) l ≡ set l i s
  unfolding relabel
  relabel-set m [] i h e = refl
  relabel-set [] (x ∷ l) i h e = absurd (omega arith)
  relabel-set (a ∷ m) (x ∷ l) zero h e = grind (arith, relabel-none m l)
  relabel-set (a ∷ m) (x ∷ l) (suc i) h e = grind (arith, relabel-set m l i)

  -- marks that are only added: what is written in two steps is written in one
  pub relabel-more :
      (m r q : List Bool) (l : List ℕ) → length r ≡ length m → length q ≡ length m → ((k : ℕ) → marked m k ≡ true → marked r k ≡ true) → ((k : ℕ) → marked r k ≡ true → marked q k ≡ true)
      → relabel s r q (relabel s m r l) ≡ relabel s m q l
  unfolding relabel
  relabel-more m r q [] a b f g = refl
  relabel-more [] [] q (x ∷ l) a b f g = refl
  relabel-more [] (y ∷ r) q (x ∷ l) a b f g = absurd (omega arith)
  relabel-more (y ∷ m) [] q (x ∷ l) a b f g = absurd (omega arith)
  relabel-more (y ∷ m) (z ∷ r) [] (x ∷ l) a b f g = absurd (omega arith)
  relabel-more (y ∷ m) (z ∷ r) (w ∷ q) (x ∷ l) a b f g =
      let f₀ : y ≡ true → z ≡ true = f 0 in
      let g₀ : z ≡ true → w ≡ true = g 0 in
      let ih = relabel-more m r q l (omega arith) (omega arith) (λ k. f (suc k)) (λ k. g (suc k)) in
      grind (arith, ih, f₀, g₀)

  pub relabel-at : (m r : List Bool) (l : List ℕ) (k : ℕ) → k < length m → k < length r → k < length l → get_or (relabel s m r l) k 0 ≡ cond (marked m k) (get_or l k 0) (cond (marked r k) s (get_or l k 0))
  unfolding relabel
  relabel-at m r [] k a b c = absurd (omega arith)
  relabel-at [] r (x ∷ l) k a b c = absurd (omega arith)
  relabel-at (y ∷ m) [] (x ∷ l) k a b c = absurd (omega arith)
  relabel-at (y ∷ m) (z ∷ r) (x ∷ l) zero a b c = refl
  relabel-at (y ∷ m) (z ∷ r) (x ∷ l) (suc k) a b c = relabel-at m r l k (omega arith) (omega arith) (omega arith)

-- ---- what visits with the label s have done, with the marks m and the labels l before them, and r and q after them

pub record Progress (s : ℕ) (m r : List Bool) (l q : List ℕ) : Type 0 where
  pub grown : Grown m r
  pub written : q ≡ relabel s m r l

pub progress-none : (s : ℕ) (m : List Bool) (l : List ℕ) → Progress s m m l l
progress-none s m l = record { grown = grown-none m; written = sym (relabel-none s m l) }

pub progress-more : (s : ℕ) (m r x : List Bool) (l q y : List ℕ) → Progress s m r l q → Grown r x → y ≡ relabel s r x q → Progress s m x l y
progress-more s m r x l q y w g e = record {
  grown = grown-more m r x w.grown g;
  written = e ∙ ap (relabel s r x) w.written ∙ relabel-more s m r x l w.grown.same (g.same ∙ w.grown.same) w.grown.kept g.kept;
}

-- a visit begins by a mark and a label
pub progress-end : (s : ℕ) (m r : List Bool) (l q : List ℕ) (i : ℕ) → i < length m → marked m i ≡ false → Progress s (set m i true) r (set l i s) q → q ≡ relabel s m r l
progress-end s m r l q i h e w =
    let b : Progress s m (set m i true) l (set l i s) = record { grown = grown-set m i; written = sym (relabel-set s m l i h e) } in
    (progress-more s m (set m i true) r l (set l i s) q b w.grown w.written).written
