-- Which of two fixes represents both, from the lesser of their records.
use Rattle.std.proofs.Common.{◌≡◌, sym, ◌∙◌, Bool, true, false, List, ℕ}
use Rattle.octets.specs.Order.{is_before, same}
use Rattle.octets.specs.Lesser.{lesser_of}
use Rattle.octets.proofs.Comparison.{same_refl, less-same}
use Rattle.lists.proofs.Bools.{by, clash}

module _ (a b r : List ℕ) (equal : Bool) (e : r ≡ lesser_of a b) (q : equal ≡ same r a) where
  -- it is not the first: the second comes before it
  pub second : equal ≡ false → is_before b a ≡ true
  second h = by (is_before b a) (λ t. t) (λ t. clash (rw (e, t) (same_refl a)) (sym q ∙ h))

  -- it is the first
  pub first : equal ≡ true → is_before b a ≡ false
  first h = by (is_before b a) (λ t. clash (sym q ∙ h) (rw (e, t) (less-same b a t))) (λ t. t)
