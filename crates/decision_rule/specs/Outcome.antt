-- What is decided of items: each is ranked, dominated or refused.
-- Source: docs/REFERENCE.md, 'Decision'.
use Rattle.std.specs.Prelude.{Bool, List}

-- a refused item, the one that it is refused against, what was measured between them, and whether that one took its place
pub record Refused (A C : Type 0) : Type 0 where
  pub item : A
  pub against : A
  pub chi2 : C
  pub superseded : Bool

-- what is decided: the ranked in rank, the dominated and the refused in the order of the items
pub record Outcome (A C : Type 0) : Type 0 where
  pub ranked : List A
  pub dominated : List A
  pub refused : List (Refused A C)
