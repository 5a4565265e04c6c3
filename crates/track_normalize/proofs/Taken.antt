-- What becomes of a fix, by where its identity is held.
use Prim.Native.Nat.{ℕ, zero, suc, ◌<◌}
use mathlib.Core.Path.{◌≡◌, refl, sym, ap, ◌∙◌}
use mathlib.Core.Bool.{Bool, true, false, ◌||◌}
use mathlib.Core.List.{List, [], ◌∷◌, map}
use native.Mathlib.Omega.{arith}
use lib.ListN.{length, get_or, set}
use Rattle.std.proofs.lemmas.List.Folds.{list_any-append}
use Rattle.std.proofs.lemmas.List.Quantifiers.{position-Some}
use Rattle.std.specs.Prelude.{Some, None, position}
use Rattle.std.specs.List.{list_any}
use Rattle.lists.proofs.Lists.{any-of}
use Rattle.fixes.specs.Fix.{Fix}
use Rattle.fixes.proofs.Indexed.{at_in}
use Rattle.track_transmission.specs.Held.{RefusedFix, HeldTransmission, fix_of, held_in, is_of}
use Rattle.track_transmission.specs.Values.{signed_refused}
use Rattle.track_normalize.specs.Normal.{signed_by}
use Rattle.track_normalize.specs.Joining.{sign_refused, sign_in}
use Rattle.track_normalize.proofs.Gathered.{none-of, sign-set}

none_held : (test : Fix → Bool) (xs : List RefusedFix) → list_any (λ x. test (fix_of x)) xs ≡ list_any test (map fix_of xs)
none_held test [] = refl
none_held test (x ∷ xs) = ap (λ (b : Bool). test (fix_of x) || b) (none_held test xs)

sign-refused : (f : Fix) (xs : List RefusedFix) (i : ℕ) (d : RefusedFix) → i < length xs
    → is_of f (get_or xs i d).fix ≡ true → ((j : ℕ) → j < i → is_of f (get_or xs j d).fix ≡ false)
    → sign_refused f xs ≡ set xs i (signed_refused f.signers (get_or xs i d))
unfolding sign_refused
sign-refused f [] i d h e p = absurd (omega arith)
sign-refused f (x ∷ xs) zero d h e p = rw e refl
sign-refused f (x ∷ xs) (suc i) d h e p = rw (p 0 (omega arith)) (ap (λ (l : List RefusedFix). x ∷ l) (sign-refused f xs i d (omega arith) e (λ j k. p (suc j) (omega arith))))

module _ (f : Fix) (t : HeldTransmission) where
  -- among those that stand
  module _ (i : ℕ) (d : Fix) (e : position (is_of f) t.fixes ≡ Some i) where
    stands : list_any (is_of f) t.fixes ≡ true
    stands = let s = position-Some (is_of f) t.fixes i d e in any-of (is_of f) t.fixes (get_or t.fixes i d) (at_in d t.fixes i s.0) s.1

    pub held-standing : list_any (is_of f) (held_in t) ≡ true
    held-standing = list_any-append (is_of f) t.fixes (map fix_of t.refused) ∙ rw stands refl

    pub left-standing : (fs : List Fix) → fs ≡ set t.fixes i (signed_by f (get_or t.fixes i d)) → (record { fixes = fs; refused = t.refused }) ≡ sign_in f t
    left-standing fs g = let s = position-Some (is_of f) t.fixes i d e in rw (stands, g, sign-set f t.fixes i d s.0 s.1 s.2) refl

  module _ (e : position (is_of f) t.fixes ≡ None) where
    none-stands : list_any (is_of f) t.fixes ≡ false
    none-stands = none-of (is_of f) t.fixes e

    pub held-behind : list_any (is_of f) (held_in t) ≡ list_any (λ x. is_of f (fix_of x)) t.refused
    held-behind = list_any-append (is_of f) t.fixes (map fix_of t.refused) ∙ rw none-stands (sym (none_held (is_of f) t.refused))

    -- among the refused
    module _ (i : ℕ) (d : RefusedFix) (q : position (λ x. is_of f (fix_of x)) t.refused ≡ Some i) where
      pub held-refused : list_any (is_of f) (held_in t) ≡ true
      held-refused =
          let s = position-Some (λ x. is_of f (fix_of x)) t.refused i d q in
          held-behind ∙ any-of (λ x. is_of f (fix_of x)) t.refused (get_or t.refused i d) (at_in d t.refused i s.0) s.1

      pub left-refused : (xs : List RefusedFix) → xs ≡ set t.refused i (signed_refused f.signers (get_or t.refused i d)) → (record { fixes = t.fixes; refused = xs }) ≡ sign_in f t
      left-refused xs g =
          let s = position-Some (λ x. is_of f (fix_of x)) t.refused i d q in
          rw (none-stands, g, sign-refused f t.refused i d s.0 s.1 s.2) refl

    -- nowhere
    pub held-none : position (λ x. is_of f (fix_of x)) t.refused ≡ None → list_any (is_of f) (held_in t) ≡ false
    held-none q = held-behind ∙ none-of (λ x. is_of f (fix_of x)) t.refused q
