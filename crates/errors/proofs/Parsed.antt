-- What is known where bytes were tested: they hold a value, or they are refused.
use Rattle.std.proofs.Common.{◌≡◌, Bool, true, false, cond, arith, Result, Ok, Err}
use Rattle.errors.specs.declared.Error.{Error}
use Rattle.errors.specs.declared.Error.TheVariants.{Malformed}

module _ {A : Type 0} (b : Bool) (x : A) (r : Result A Error) (is : r ≡ cond b (Ok x) (Err Malformed)) where
  pub parsed : (y : A) → r ≡ Ok y → (b ≡ true) × (x ≡ y)
  parsed y e = grind (arith, is, e)

  pub unparsed : (y : Error) → r ≡ Err y → (b ≡ false) × (y ≡ Malformed)
  unparsed y e = grind (arith, is, e)
