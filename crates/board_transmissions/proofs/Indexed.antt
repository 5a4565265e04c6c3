-- The transmissions of fixes, by the indices of the fixes in their list.
use Rattle.std.proofs.Common.{ℕ, zero, suc, ◌↔◌, ◌+◌, ◌≤◌, ◌<◌, ◌≡◌, refl, ap, ap₂, ◌∙◌, Bool, true, List, [], ◌∷◌, map, arith, length, get_or}
use mathlib.Core.List.{Memᴰ}
use Rattle.octets.specs.Order.{same}
use Rattle.std.specs.List.{filter}
use Rattle.lists.specs.Range.{filt}
use Rattle.lists.proofs.Range.{filt-at}
use Rattle.lists.proofs.Bools.{by}
use Rattle.fixes.specs.Fix.{Fix}
use Rattle.fixes.specs.Items.{no_fix, fix_at}
use Rattle.fixes.proofs.Indexed.{at_in}
use Rattle.board_transmissions.specs.Transmissions.{transmission_of, leads, is_first, transmissions_of}
use Rattle.board_transmissions.specs.Chains.{Chain}
use Rattle.board_transmissions.proofs.Reaching.{SelfLinked, together, together-is, transmission-tested}

-- ---- a list and its places

module _ {A : Type 0} (d : A) where
  from_place : (p : A → Bool) (h : ℕ → A) (l : List A) (k : ℕ) → ((i : ℕ) → i < length l → h (k + i) ≡ get_or l i d) → filter p l ≡ map h (filt (λ i. p (h i)) k (length l))
  unfolding filt
  from_place p h [] k e = refl
  from_place p h (x ∷ l) k e =
      let z : k ≡ k + 0 = omega arith in
      let w : h k ≡ x = ap h z ∙ e 0 (omega arith) in
      let r = from_place p h l (suc k) (λ i b. let y : suc k + i ≡ k + suc i = omega arith in ap h y ∙ e (suc i) (omega arith)) in
      grind (arith, w, r)

  pub filter-places : (p : A → Bool) (l : List A) → filter p l ≡ map (λ i. get_or l i d) (filt (λ i. p (get_or l i d)) 0 (length l))
  filter-places p l = from_place p (λ i. get_or l i d) l 0 (λ i b. let z : 0 + i ≡ i = omega arith in ap (λ (j : ℕ). get_or l j d) z)

  -- the first that passes a test is no later than another that does
  pub first-place : (p : A → Bool) (l : List A) (k : ℕ) → k < length l → p (get_or l k d) ≡ true → (i : ℕ) × (i ≤ k) × (p (get_or l i d) ≡ true) × ((rest : List A) × (filter p l ≡ get_or l i d ∷ rest))
  first-place p [] k h e = absurd (omega arith)
  first-place p (x ∷ l) zero h e = (0, omega arith, e, (filter p l, rw e refl))
  first-place p (x ∷ l) (suc k) h e =
      by (p x)
      (λ t. (0, omega arith, t, (filter p l, rw t refl)))
      (λ t. let r = first-place p l k (omega arith) e in (suc r.0, omega arith, r.2, (r.3.0, rw t r.3.1)))

pub map_same : {A B : Type 0} (f g : A → B) (l : List A) → ((x : A) → Memᴰ x l → f x ≡ g x) → map f l ≡ map g l
map_same f g [] e = refl
map_same f g (x ∷ l) e = ap₂ (λ y ys. y ∷ ys) (e x (Memᴰ.head refl)) (map_same f g l (λ y m. e y (Memᴰ.tail m)))

pub map-map : {A B C : Type 0} (f : B → C) (g : A → B) (l : List A) → map f (map g l) ≡ map (λ x. f (g x)) l
map-map f g [] = refl
map-map f g (x ∷ l) = ap (λ ys. f (g x) ∷ ys) (map-map f g l)

-- ---- fixes in their list

-- fixes i and j are of one transmission
abbrev pub together_at : List Fix → ℕ → ℕ → Bool
together_at fs i j = together fs (fix_at fs i) (fix_at fs j)

-- fix i is the first of its own
abbrev pub first_at : List Fix → ℕ → Bool
first_at fs i = is_first fs (fix_at fs i)

module _ (fs : List Fix) (self : SelfLinked fs) where
  pub together-at-is : (i j : ℕ) → i < length fs → j < length fs → (together_at fs i j ≡ true) ↔ Chain fs (fix_at fs i) (fix_at fs j)
  together-at-is i j h k = together-is fs self (fix_at fs i) (fix_at fs j) (at_in no_fix fs i h) (at_in no_fix fs j k)

  pub transmissions-are : transmissions_of fs ≡ map (λ i. map (fix_at fs) (filt (together_at fs i) 0 (length fs))) (filt (first_at fs) 0 (length fs))
  unfolding transmissions_of
  transmissions-are =
      ap (map (transmission_of fs)) (filter-places no_fix (is_first fs) fs)
      ∙ map-map (transmission_of fs) (fix_at fs) (filt (first_at fs) 0 (length fs))
      ∙ map_same (λ i. transmission_of fs (fix_at fs i)) (λ i. map (fix_at fs) (filt (together_at fs i) 0 (length fs))) (filt (first_at fs) 0 (length fs))
      (λ i m. let z = filt-at (first_at fs) 0 (length fs) i m in transmission-tested fs (fix_at fs i) (at_in no_fix fs i (omega arith)) ∙ filter-places no_fix (together fs (fix_at fs i)) fs)

  -- the first of a transmission is no later than any of it
  pub first-of : (s k : ℕ) → s < length fs → k < length fs → Chain fs (fix_at fs s) (fix_at fs k) → (i : ℕ) × (i ≤ k) × Chain fs (fix_at fs s) (fix_at fs i) × (first_at fs s ≡ same (fix_at fs s).identity (fix_at fs i).identity)
  first-of s k h b c =
      let r = first-place no_fix (together fs (fix_at fs s)) fs k b ((together-at-is s k h b).1 c) in
      let l = r.1 in
      (r.0, l, (together-at-is s r.0 h (omega arith)).0 r.2, ap (leads (fix_at fs s)) (transmission-tested fs (fix_at fs s) (at_in no_fix fs s h) ∙ r.3.1))
