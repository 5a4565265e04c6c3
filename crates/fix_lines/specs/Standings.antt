-- The line of a fix of a board, by what became of it.
-- Source: docs/REFERENCE.md, 'Text'.
use Rattle.std.specs.Prelude.{ℕ, List}
use Rattle.fix_lines.specs.Lines.{ranked_line, dominated_line, refused_line}
use Rattle.fix_lines.specs.declared.Standing.{Standing}
use Rattle.fix_lines.specs.declared.Standing.TheVariants.{Ranked, Dominated, Refused}

abbrev pub standing_line : Standing → List ℕ → ℕ → List ℕ
standing_line Ranked r s = ranked_line r s
standing_line Dominated r s = dominated_line r s
standing_line (Refused x) r s = refused_line r s x
