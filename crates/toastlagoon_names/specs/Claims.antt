-- What is claimed of names. The contracts of src/claims.rt name it; the proofs are in proofs/Sizes.
-- Source: docs/REFERENCE.md, 'Answers'.
use Rattle.std.specs.Prelude.{ℕ, ◌≤◌, ◌<◌, length}
use Rattle.toastlagoon_names.specs.Names.{name_of, name_size}

-- every number has a name, and it fits
abbrev pub NamesFit : Type 0
NamesFit = (n : ℕ) → length (name_of n) ≤ name_size

abbrev pub NoNameIsEmpty : Type 0
NoNameIsEmpty = (n : ℕ) → 0 < length (name_of n)
