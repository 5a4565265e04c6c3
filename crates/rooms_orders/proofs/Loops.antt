-- A loop over a list that is mapped: what is left at a turn.
use Rattle.std.proofs.Common.{◌≡◌, ◌∙◌, ap, sym, refl, ◌++◌, ℕ, suc, ◌+◌, ◌<◌, ◌≤◌, List, [], ◌∷◌, length, drop, get_or, map, arith, drop-cons}
use Rattle.std.proofs.Math.ListN.{drop_of_length-le}
use Rattle.std.proofs.lemmas.List.{get_or-map, length-map}

module _ {X Y : Type 0} (f : X → Y) (l : List X) (i : ℕ) where
  pub next : (x : X) → i < length l → x ≡ get_or l i x → drop i (map f l) ≡ f x ∷ drop (i + 1) (map f l)
  next x h here =
      let fits : i < length (map f l) = simp length-map h in
      let first : get_or (map f l) i (f x) ≡ f x = get_or-map f l i x (f x) h ∙ ap f (sym here) in
      let later : suc i ≡ i + 1 = omega arith in
      drop-cons (map f l) i (f x) fits ∙ ap (λ (y : Y). y ∷ drop (suc i) (map f l)) first ∙ ap (λ (k : ℕ). f x ∷ drop k (map f l)) later

  pub none : length l ≤ i → drop i (map f l) ≡ []
  none h = drop_of_length-le (map f l) (simp length-map h)

-- one more at the end of what was gathered
pub pushed : {X Y : Type 0} (f : X → Y) (xs ys : List X) (x : X) (zs : List Y) → ys ≡ xs ++ (x ∷ []) → map f xs ++ (f x ∷ zs) ≡ map f ys ++ zs
pushed {X} {Y} f xs ys x zs e = go xs ∙ ap (λ (l : List X). map f l ++ zs) (sym e)
  where
    go : (l : List X) → map f l ++ (f x ∷ zs) ≡ map f (l ++ (x ∷ [])) ++ zs
    go [] = refl
    go (y ∷ l) = ap (λ (r : List Y). f y ∷ r) (go l)
