-- A record's model inputs are answered exactly where it counts.
use Rattle.std.proofs.Common.{ℕ, ◌≡◌, true, false, List, arith, Option, Some, None}
use Rattle.models.specs.Models.{counts}
use Rattle.models.specs.Identity.{cited_inputs, cited}

module _ (ps : List (List ℕ)) (r : List ℕ) (v : Option (List ℕ)) (is : v ≡ cited ps r) where
  pub cites : (i : List ℕ) → v ≡ Some i → (counts ps r ≡ true) × (i ≡ cited_inputs ps r)
  cites i e = grind (arith, is, e)

  pub cites-none : v ≡ None → counts ps r ≡ false
  cites-none e = grind (arith, is, e)
