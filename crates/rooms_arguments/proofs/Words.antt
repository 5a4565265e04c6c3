-- What is read after the next word.
use Rattle.std.proofs.Common.{◌≡◌, ◌∙◌, ap, sym, refl, ℕ, suc, ◌+◌, ◌<◌, ◌≤◌, List, ◌∷◌, length, drop, get_or, map, arith, drop-cons, Result, Ok, Err}
use Rattle.std.proofs.Math.ListN.{drop_of_length-le}
use Rattle.std.proofs.lemmas.List.{get_or-map, length-map}
use Rattle.rooms_arguments.specs.declared.Taken.{Taken}
use Rattle.rooms_arguments.specs.declared.Instead.{Instead}
use Rattle.rooms_arguments.specs.Calling.{take, and_then, taken}

module _ {X : Type 0} (bytes : X → List ℕ) (words : List X) (w : Taken) (i : ℕ) (x : X) (h : i < length words) (here : x ≡ get_or words i x) where
  next : taken w i (drop i (map bytes words)) ≡ and_then (take w i (bytes x)) (λ (v : Taken). taken v (i + 1) (drop (i + 1) (map bytes words)))
  unfolding taken
  next =
      let fits : i < length (map bytes words) = simp length-map h in
      let first : get_or (map bytes words) i (bytes x) ≡ bytes x = get_or-map bytes words i x (bytes x) h ∙ ap bytes (sym here) in
      let later : suc i ≡ i + 1 = omega arith in
      let split : drop i (map bytes words) ≡ bytes x ∷ drop (i + 1) (map bytes words) =
      drop-cons (map bytes words) i (bytes x) fits ∙ ap (λ (t : List ℕ). t ∷ drop (suc i) (map bytes words)) first
      ∙ ap (λ (k : ℕ). bytes x ∷ drop k (map bytes words)) later in
      ap (taken w i) split

  pub taken-more : (r : Result Taken Instead) → r ≡ take w i (bytes x) → (v : Taken) → r ≡ Ok v → taken w i (drop i (map bytes words)) ≡ taken v (i + 1) (drop (i + 1) (map bytes words))
  taken-more r e v q = next ∙ rw (← e, q) refl

  pub taken-instead : (r : Result Taken Instead) → r ≡ take w i (bytes x) → (n : Instead) → r ≡ Err n → taken w i (drop i (map bytes words)) ≡ Err n
  taken-instead r e n q = next ∙ rw (← e, q) refl

pub taken-end : (w : Taken) (i : ℕ) (ts : List (List ℕ)) → length ts ≤ i → taken w i (drop i ts) ≡ Ok w
unfolding taken
taken-end w i ts h = rw (drop_of_length-le ts h) refl
