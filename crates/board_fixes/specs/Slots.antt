-- How many fixes a board has at most.
-- Source: docs/REFERENCE.md, 'Register and board'.
use Rattle.std.specs.Prelude.{ℕ}
use Rattle.decision_items.specs.Layout.{max_items}

-- as many as are decided at once
abbrev pub max_fixes : ℕ
max_fixes = max_items
