-- What is left of the fixes that a transmission holds, gathered one after another.
use Rattle.std.proofs.Common.{◌≡◌, ℕ, ◌+◌, ◌≤◌, ◌<◌, Bool, true, false, List, [], ◌∷◌, ◌++◌, length, take, get_or, refl, sym, ap, ◌∙◌, add-one}
use Rattle.std.specs.Prelude.{not}
use mathlib.Core.Bool.{true≢false}
use lib.Seq.{take-suc, take_all}
use Rattle.std.specs.List.{filter, list_any}
use Rattle.lists.proofs.Bools.{by}
use Rattle.fixes.specs.Fix.{Fix}
use Rattle.track_normalize.specs.Normal.{gather, gather_all, distinct}
use Rattle.track_normalize.proofs.Distinct.{all_append}

module _ (test : Fix → Bool) where
  -- all pass
  pub filter_whole : (l : List Fix) → list_any (λ f. not (test f)) l ≡ false → filter test l ≡ l
  filter_whole [] e = refl
  filter_whole (f ∷ l) e =
      by (test f) (λ t. rw t (ap (λ (k : List Fix). f ∷ k) (filter_whole l (rw t at e)))) (λ t. absurd (true≢false (rw t at e)))

  last-in : (l : List Fix) (f : Fix) → test f ≡ true → filter test (l ++ (f ∷ [])) ≡ filter test l ++ (f ∷ [])
  last-in [] f e = rw e refl
  last-in (g ∷ l) f e = by (test g) (λ t. rw t (ap (λ (k : List Fix). g ∷ k) (last-in l f e))) (λ t. rw t (last-in l f e))

  last-out : (l : List Fix) (f : Fix) → test f ≡ false → filter test (l ++ (f ∷ [])) ≡ filter test l
  last-out [] f e = rw e refl
  last-out (g ∷ l) f e = by (test g) (λ t. rw t (ap (λ (k : List Fix). g ∷ k) (last-out l f e))) (λ t. rw t (last-out l f e))

  -- the first i of the fixes fs that pass, gathered
  module _ (fs : List Fix) where
    abbrev pub left_of : ℕ → List Fix
    left_of i = distinct (filter test (take i fs))

    pub none-left : [] ≡ left_of 0
    unfolding gather_all
    none-left = refl

    module _ (i : ℕ) (f d : Fix) (h : i < length fs) (e : f ≡ get_or fs i d) where
      next : take (i + 1) fs ≡ take i fs ++ (f ∷ [])
      next = ap (λ (k : ℕ). take k fs) (add-one i) ∙ take-suc fs i d h ∙ ap (λ (g : Fix). take i fs ++ (g ∷ [])) (sym e)

      pub one-left : test f ≡ true → gather (left_of i) f ≡ left_of (i + 1)
      unfolding gather_all
      one-left t = sym (ap (λ (l : List Fix). distinct (filter test l)) next ∙ ap distinct (last-in (take i fs) f t) ∙ all_append [] (filter test (take i fs)) (f ∷ []))

      pub one-less : test f ≡ false → left_of i ≡ left_of (i + 1)
      one-less t = sym (ap (λ (l : List Fix). distinct (filter test l)) next ∙ ap distinct (last-out (take i fs) f t))

    pub all-left : (i : ℕ) → length fs ≤ i → left_of i ≡ distinct (filter test fs)
    all-left i h = ap (λ (l : List Fix). distinct (filter test l)) (take_all i fs h)
