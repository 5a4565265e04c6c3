-- Putting in by place is putting in behind those that come before.
use Rattle.std.proofs.Common.{Option, Bool, ℕ, suc, ◌+◌, ◌≡◌, refl, sym, ap, ◌∙◌, not, List, [], ◌∷◌, arith, length, ltb, ltb-false}
use Rattle.lists.specs.Lists.{insert}
use Rattle.lists.proofs.Bools.{by}
use Rattle.std.specs.List as S
use Rattle.std.specs.List.{position, position_or_len}
use Rattle.std.specs.Option.{unwrap_or}
use Rattle.std.proofs.lemmas.List.Sums.{prefix_len-le-length}

module _ {A : Type 0} (before : A → A → Bool) where
  put-in : (x : A) (l : List A) → insert before x l ≡ S.insert l (position_or_len (λ y. not (before y x)) l) x
  unfolding insert
  put-in x [] = refl
  put-in x (y ∷ l) =
      let n = position_or_len (λ z. not (before z x)) l in
      let e : 1 + n ≡ suc n = omega arith in
      by (before y x) (λ t. rw (t, e) (ap (λ (z : List A). y ∷ z) (put-in x l))) (λ t. rw t refl)

  pub insert-at : (x : A) (l : List A) (o : Option ℕ) → o ≡ position (λ y. not (before y x)) l → insert before x l ≡ S.insert l (unwrap_or o (length l)) x
  insert-at x l o e =
      let n = position_or_len (λ y. not (before y x)) l in
      put-in x l
      ∙ ap (λ (i : ℕ). S.insert l i x)
      (sym (ap (λ (q : Option ℕ). unwrap_or q (length l)) e
      ∙ by (ltb n (length l)) (λ t. rw t refl) (λ t. rw t (let a = ltb-false n (length l) t in let b = prefix_len-le-length (λ y. not (not (before y x))) l in omega arith))))
