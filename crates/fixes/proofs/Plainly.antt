-- What is shown of a transmission is the decision of its fixes: none of them is verified, so none supersedes another.
use mathlib.Core.Path.{◌≡◌, refl, sym, ap, ap₂, ◌∙◌}
use mathlib.Core.Bool.{Bool, false, not, ◌&&◌, ◌||◌}
use mathlib.Core.List.{List, [], ◌∷◌, flat_map}
use Rattle.std.specs.List.{filter, list_any}
use Rattle.lists.specs.Lists.{sort}
use Rattle.lists.proofs.Lists.{any_none, filter_none}
use Rattle.lists.proofs.Bools.{by, and-unit}
use Rattle.decision_rule.specs.Standing as D
use Rattle.decision_rule.specs.Standing.{decide}
use Rattle.fixes.specs.Fix.{Fix}
use Rattle.fixes.specs.Shown.{disagrees, within, ahead, refuse, is_refused, is_covered, shown}
use Rattle.fixes.specs.Claims.{fix_relations, ShownIsDecided}

module _ (fs : List Fix) where
  not-superseded : (f : Fix) → D.is_superseded fix_relations fs f ≡ false
  unfolding D.is_superseded D.supersedes
  not-superseded f = any_none (D.replaces fix_relations fs f) fs (λ g m. refl)

  opposes-is : (f : Fix) → D.opposes fix_relations fs f ≡ disagrees f
  opposes-is f = λ i g. (ap (λ (b : Bool). disagrees f g && not b) (not-superseded g) ∙ and-unit (disagrees f g)) i

  contested-is : (f : Fix) → D.is_contested fix_relations fs f ≡ is_refused fs f
  unfolding D.is_contested D.supersedes
  contested-is f = rw (not-superseded f) (ap (λ (p : Fix → Bool). list_any p fs) (opposes-is f))

  refused-is : D.is_refused fix_relations fs ≡ is_refused fs
  unfolding D.is_refused
  refused-is = λ i f. ap₂ ◌||◌ (not-superseded f) (contested-is f) i

  covered-is : D.is_covered fix_relations fs ≡ is_covered fs
  unfolding D.is_covered
  covered-is = λ i f. list_any (λ g. not (refused-is i g) && within f g) fs

  opposed-is : (f : Fix) (l : List Fix) → D.opposed fix_relations fs f l ≡ refuse f l
  opposed-is f [] = refl
  opposed-is f (g ∷ gs) = refl

  refusal_is : D.refusal_of fix_relations fs ≡ (λ f. refuse f (filter (disagrees f) fs))
  unfolding D.refusal_of
  refusal_is = λ i f. at f i
    where
      named : (f : Fix) → D.opposed fix_relations fs f (filter (D.opposes fix_relations fs f) fs) ≡ refuse f (filter (disagrees f) fs)
      named f = opposed-is f (filter (D.opposes fix_relations fs f) fs) ∙ ap (λ (p : Fix → Bool). refuse f (filter p fs)) (opposes-is f)

      at : (f : Fix) → D.refusal_of fix_relations fs f ≡ refuse f (filter (disagrees f) fs)
      at f =
          by (is_refused fs f)
          (λ t. rw (not-superseded f, contested-is f ∙ t) (named f))
          (λ t. rw (not-superseded f, contested-is f ∙ t, filter_none (disagrees f) fs t) refl)

  both : (p q : Bool → Bool) → ◌≡◌ {A = Fix → Bool} (λ f. p (D.is_refused fix_relations fs f) && q (D.is_covered fix_relations fs f)) (λ f. p (is_refused fs f) && q (is_covered fs f))
  both p q = λ i f. p (refused-is i f) && q (covered-is i f)

pub shown-is-decided : ShownIsDecided
unfolding shown decide
shown-is-decided fs = sym λ i. record {
  ranked = sort ahead (filter (both fs not not i) fs);
  dominated = filter (both fs not (λ b. b) i) fs;
  refused = flat_map (refusal_is fs i) fs;
}
