-- Lists of which the members are changed one after another.
use Prim.Native.Nat.{ℕ, zero, suc, ◌+◌, ◌≤◌, ◌<◌}
use mathlib.Core.Path.{◌≡◌, refl, sym, ap, ap₂, ◌∙◌}
use mathlib.Core.List.{List, [], ◌∷◌, ◌++◌, map, append_assoc, map-append}
use native.Mathlib.Omega.{arith}
use native.Mathlib.Numerals.{add-one}
use lib.ListN.{length, get_or, set, take, drop, length-append, length-drop, length-map}
use lib.Seq.{drop-cons, take-suc, take_at, drop_at, take_all, length-take-le}

module _ {A : Type 0} where
  -- the first i members of l₀ are changed, the others are as they were
  pub record Changed (f : A → A) (l₀ : List A) (i : ℕ) (l : List A) : Type 0 where
    pub few : i ≤ length l₀
    pub is : l ≡ map f (take i l₀) ++ drop i l₀

  pub changed-none : (f : A → A) (l : List A) → Changed f l 0 l
  changed-none f l = record { few = omega arith; is = refl }

  module _ {f : A → A} {l₀ l : List A} {i : ℕ} (c : Changed f l₀ i l) where
    front_length : length (map f (take i l₀)) ≡ i
    front_length = length-map (take i l₀) f ∙ length-take-le i l₀ c.few

    pub changed-rest : drop i l ≡ drop i l₀
    changed-rest = ap (drop i) c.is ∙ drop_at (map f (take i l₀)) (drop i l₀) i front_length

    pub changed-front : take i l ≡ map f (take i l₀)
    changed-front = ap (take i) c.is ∙ take_at (map f (take i l₀)) (drop i l₀) i front_length

    pub changed-length : length l ≡ length l₀
    changed-length = let w = c.few in ap length c.is ∙ length-append (map f (take i l₀)) (drop i l₀) ∙ ap₂ ◌+◌ front_length (length-drop i l₀) ∙ omega arith

    pub changed-all : length l₀ ≤ i → l ≡ map f l₀
    changed-all h = sym (take_all i l (rw changed-length h)) ∙ changed-front ∙ ap (map f) (take_all i l₀ h)

    module _ (d : A) (h : i < length l₀) where
      pub changed-here : get_or l i d ≡ get_or l₀ i d
      changed-here = ap (λ (z : List A). get_or z 0 d) (sym (drop-cons l i d (rw changed-length h)) ∙ changed-rest ∙ drop-cons l₀ i d h)

      changed-next : (l' : List A) → l' ≡ take i l ++ (f (get_or l i d) ∷ drop (i + 1) l) → Changed f l₀ (i + 1) l'
      changed-next l' q =
          let g : get_or l i d ∷ drop (suc i) l ≡ get_or l₀ i d ∷ drop (suc i) l₀ = sym (drop-cons l i d (rw changed-length h)) ∙ changed-rest ∙ drop-cons l₀ i d h in
          let y : drop (i + 1) l ≡ drop (i + 1) l₀ = ap (λ (k : ℕ). drop k l) (add-one i) ∙ ap (drop 1) g ∙ ap (λ (k : ℕ). drop k l₀) (sym (add-one i)) in
          record {
            few = omega arith;
            is =
                q ∙ ap₂ (λ (u v : List A). u ++ v) changed-front (ap₂ (λ (u : A) (v : List A). f u ∷ v) changed-here y)
                ∙ sym (append_assoc (map f (take i l₀)) (f (get_or l₀ i d) ∷ []) (drop (i + 1) l₀))
                ∙ ap (λ (u : List A). u ++ drop (i + 1) l₀) (sym (map-append f (take i l₀) (get_or l₀ i d ∷ [])) ∙ ap (map f) (sym (ap (λ (k : ℕ). take k l₀) (add-one i) ∙ take-suc l₀ i d h)));
          }

      -- the list has the changed member in its place
      pub changed-set : (l' : List A) → l' ≡ set l i (f (get_or l i d)) → Changed f l₀ (i + 1) l'
      changed-set l' q = changed-next l' (q ∙ split l i (f (get_or l i d)) (rw changed-length h))
        where
          split : (l : List A) (i : ℕ) (a : A) → i < length l → set l i a ≡ take i l ++ (a ∷ drop (i + 1) l)
          split [] i a h = absurd (omega arith)
          split (x ∷ l) zero a h = refl
          split (x ∷ l) (suc i) a h = rw (add-one (suc i)) (ap (λ (r : List A). x ∷ r) (split l i a (omega arith) ∙ rw (add-one i) refl))
