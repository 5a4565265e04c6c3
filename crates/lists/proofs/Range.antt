-- Laws of tests over a range of indices: what the first and the list of those at which a test holds mean.
use mathlib.Core.Path.{◌≡◌, refl, sym, ap, ◌∙◌}
use mathlib.Core.Bool.{Bool, true, false, true≢false, false≢true}
use mathlib.Core.Logic.{⊎_elim}
use mathlib.Core.List.Memᴰ
use mathlib.Core.List.{List, ◌∷◌, map, map-id, Memᴰ}
use Prim.Native.Nat.{ℕ, zero, suc, ◌+◌, ◌-◌, ◌≤◌, ◌<◌}
use native.Mathlib.Omega.{arith}
use native.Mathlib.Nat.{eq-or-lt_of_le, sub-zero}
use lib.ListN.{length}
use Rattle.lists.specs.Range.{any, first, filt, collect}
use Rattle.lists.specs.Tables.{itself}
use Rattle.lists.proofs.Bools.{decide, clash, no_true, by, or}

pub any-of : (g : ℕ → Bool) (k f i : ℕ) → k ≤ i → i < k + f → g i ≡ true → any g k f ≡ true
unfolding any
any-of g k zero i h l e = absurd (omega arith)
any-of g k (suc f) i h l e =
    ⊎_elim (λ p. rw p refl)
    (λ p. rw p (⊎_elim (λ q. clash (ap g q ∙ e) p) (λ q. any-of g (suc k) f i q (omega arith) e) (eq-or-lt_of_le h)))
    (decide (g k))

pub any_at : (g : ℕ → Bool) (k f : ℕ) → any g k f ≡ true → (i : ℕ) × (k ≤ i) × (i < k + f) × (g i ≡ true)
unfolding any
any_at g k zero e = absurd (false≢true e)
any_at g k (suc f) e =
    ⊎_elim (λ p. (k, omega arith, omega arith, p))
    (λ p. let r = any_at g (suc k) f (rw p at e) in (r.0, omega arith, omega arith, r.3))
    (decide (g k))

pub any-no : (g : ℕ → Bool) (k f i : ℕ) → any g k f ≡ false → k ≤ i → i < k + f → g i ≡ false
any-no g k f i e h l = no_true (g i) (λ p. true≢false (sym (any-of g k f i h l p) ∙ e))

pub any_none : (g : ℕ → Bool) (k f : ℕ) → ((i : ℕ) → k ≤ i → i < k + f → g i ≡ false) → any g k f ≡ false
any_none g k f e = no_true (any g k f) (λ p. let r = any_at g k f p in clash r.3 (e r.0 r.1 r.2))

-- g holds at the first, unless that is the end
pub first-is : (g : ℕ → Bool) (k f : ℕ) → first g k f < k + f → g (first g k f) ≡ true
unfolding first
first-is g k zero h = absurd (omega arith)
first-is g k (suc f) h =
    ⊎_elim (λ p. rw p p) (λ p. rw p (first-is g (suc k) f (let h' = rw p at h in omega arith))) (decide (g k))

-- the first is not past any at which g holds
pub first-not-past : (g : ℕ → Bool) (k f i : ℕ) → k ≤ i → i < k + f → g i ≡ true → first g k f ≤ i
unfolding first
first-not-past g k zero i h l e = absurd (omega arith)
first-not-past g k (suc f) i h l e =
    by (g k) (λ p. rw p h)
    (λ p. rw p (or (eq-or-lt_of_le h) (λ q. clash (ap g q ∙ e) p) (λ q. first-not-past g (suc k) f i q (omega arith) e)))

pub any-start : (g : ℕ → Bool) (n : ℕ) → any g 0 n ≡ any g 0 (n - 0)
any-start g n = rw sub-zero refl

-- ---- the list of the indices at which a test holds
pub filt-mem : (g : ℕ → Bool) (k f i : ℕ) → k ≤ i → i < k + f → g i ≡ true → Memᴰ i (filt g k f)
unfolding filt
filt-mem g k zero i h l e = absurd (omega arith)
filt-mem g k (suc f) i h l e =
    by (g k)
    (λ p. rw p (or (eq-or-lt_of_le h) (λ q. Memᴰ.head (sym q)) (λ q. Memᴰ.tail (filt-mem g (suc k) f i q (omega arith) e))))
    (λ p. rw p (or (eq-or-lt_of_le h) (λ q. clash (ap g q ∙ e) p) (λ q. filt-mem g (suc k) f i q (omega arith) e)))

pub filt-at : (g : ℕ → Bool) (k f i : ℕ) → Memᴰ i (filt g k f) → (k ≤ i) × (i < k + f) × (g i ≡ true)
unfolding filt
filt-at g k zero i m = absurd (Memᴰ.not-nil m)
filt-at g k (suc f) i m =
    by (g k)
    (λ p. or (Memᴰ.cases_cons (rw p at m)) (λ q. (omega arith, omega arith, ap g q ∙ p)) (λ r. let z = filt-at g (suc k) f i r in (omega arith, omega arith, z.2)))
    (λ p. let z = filt-at g (suc k) f i (rw p at m) in (omega arith, omega arith, z.2))

pub filt-few : (g : ℕ → Bool) (k f : ℕ) → length (filt g k f) ≤ f
unfolding filt
filt-few g k zero = omega arith
filt-few g k (suc f) = let r = filt-few g (suc k) f in by (g k) (λ e. rw e (omega arith)) (λ e. rw e (omega arith))

-- ---- h of each index at which g holds
module _ {A : Type 0} where
  -- they are h of the listed indices
  pub collect-map : (g : ℕ → Bool) (h : ℕ → A) (k f : ℕ) → collect g h k f ≡ map h (filt g k f)
  unfolding collect filt
  collect-map g h k zero = refl
  collect-map g h k (suc f) = let r = collect-map g h (suc k) f in by (g k) (λ p. rw p (ap (λ (l : List A). h k ∷ l) r)) (λ p. rw p r)

  pub collect-ext : (g h : ℕ → Bool) (u v : ℕ → A) (k f : ℕ) → ((i : ℕ) → k ≤ i → i < k + f → g i ≡ h i) → ((i : ℕ) → k ≤ i → i < k + f → u i ≡ v i) → collect g u k f ≡ collect h v k f
  unfolding collect
  collect-ext g h u v k zero p q = refl
  collect-ext g h u v k (suc f) p q =
      let r = collect-ext g h u v (suc k) f (λ i a b. p i (omega arith) (omega arith)) (λ i a b. q i (omega arith) (omega arith)) in
      rw (p k (omega arith) (omega arith), q k (omega arith) (omega arith), r) refl

-- ---- the indices themselves, collected

pub collect-filt : (g : ℕ → Bool) (k f : ℕ) → collect g itself k f ≡ filt g k f
collect-filt g k f = collect-map g itself k f ∙ map-id (filt g k f)

pub filt-ext : (g h : ℕ → Bool) (k f : ℕ) → ((i : ℕ) → k ≤ i → i < k + f → g i ≡ h i) → filt g k f ≡ filt h k f
filt-ext g h k f e = sym (collect-filt g k f) ∙ collect-ext g h itself itself k f e (λ i u v. refl) ∙ collect-filt h k f
