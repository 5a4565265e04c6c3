-- What is told of a further fix, in std's words.
use Prim.Native.Nat.{ℕ, suc}
use mathlib.Core.Path.{◌≡◌, refl, sym, ap, ◌∙◌}
use mathlib.Core.Bool.{Bool, not, ◌||◌}
use mathlib.Core.List.{List, [], ◌∷◌, map}
use lib.ListN.{length}
use Rattle.std.specs.List.{list_any, count_by, filter}
use Rattle.std.proofs.lemmas.List.Sums.{length-filter}
use Rattle.lists.proofs.Bools.{by}
use Rattle.fixes.specs.Fix.{Fix}
use Rattle.track_transmission.specs.Held.{RefusedFix, fix_of, is_of}

pub any_held : (test : Fix → Bool) (l : List RefusedFix) → list_any (λ x. test (fix_of x)) l ≡ list_any test (map fix_of l)
any_held test [] = refl
any_held test (x ∷ l) = ap (λ (b : Bool). test (fix_of x) || b) (any_held test l)

filter_held : (test : Fix → Bool) (l : List RefusedFix) → length (filter (λ x. test (fix_of x)) l) ≡ length (filter test (map fix_of l))
filter_held test [] = refl
filter_held test (x ∷ l) = by (test (fix_of x)) (λ t. rw t (ap (λ (n : ℕ). suc n) (filter_held test l))) (λ t. rw t (filter_held test l))

pub count_held : (test : Fix → Bool) (l : List RefusedFix) → count_by (λ x. test (fix_of x)) l ≡ length (filter test (map fix_of l))
count_held test l = sym (length-filter (λ x. test (fix_of x)) l) ∙ filter_held test l

-- how many were not refused before
pub count_new : (b a : List RefusedFix) → count_by (λ x. not (list_any (λ y. is_of (fix_of x) (fix_of y)) b)) a ≡ length (filter (λ g. not (list_any (is_of g) (map fix_of b))) (map fix_of a))
count_new b a = (λ t. count_by (λ x. not (any_held (is_of (fix_of x)) b t)) a) ∙ count_held (λ g. not (list_any (is_of g) (map fix_of b))) a
