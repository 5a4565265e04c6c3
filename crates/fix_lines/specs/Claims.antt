-- What is claimed of the text of a chi-square: a line says `none` exactly where there is no number.
-- Source: docs/REFERENCE.md, 'Text'.
use Rattle.std.specs.Prelude.{◌≡◌, ◌↔◌}
use Rattle.octets.specs.Ascii.{ascii}
use Rattle.arithmetic.specs.declared.standing.ChiSquare.{ChiSquare}
use Rattle.arithmetic.specs.declared.standing.ChiSquare.TheVariants.{Unmeasured}
use Rattle.fix_lines.specs.Lines.{chi_square_text}

abbrev pub NoneExactlyWhen : Type 0
NoneExactlyWhen = (chi2 : ChiSquare) → (chi_square_text chi2 ≡ ascii "none") ↔ (chi2 ≡ Unmeasured)
