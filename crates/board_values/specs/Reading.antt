-- How an entry is read (docs/REFERENCE.md, 'Values'): from its 49 bytes alone. Nothing here says how an entry is written.
use Rattle.std.specs.Prelude.{ℕ, cond, eqb, List, get_or, take, drop}
use Rattle.std.specs.Float.{binary64}
use Rattle.std.specs.Float.Ieee.{of_bits}
use Rattle.octets.specs.Words.{word_at}
use Rattle.arithmetic.specs.declared.standing.ChiSquare.{ChiSquare}
use Rattle.arithmetic.specs.declared.standing.ChiSquare.TheVariants.{Measured, Unmeasured}
use Rattle.fix_lines.specs.declared.Standing.{Standing}
use Rattle.fix_lines.specs.declared.Standing.TheVariants.{Ranked, Dominated, Refused}
use Rattle.board_values.specs.Entries.{Entry}

-- whether there is a chi-square, at 40, and its bits
abbrev pub chi_square_read : List ℕ → ChiSquare
chi_square_read b = cond (eqb (get_or b 40 0) 1) (Measured (of_bits binary64 (word_at 8 41 b))) Unmeasured

-- of the role, at 1
abbrev pub standing_read : List ℕ → Standing
standing_read b = cond (eqb (get_or b 1 0) 0) Ranked (cond (eqb (get_or b 1 0) 1) Dominated (Refused (chi_square_read b)))

abbrev pub entry_read : List ℕ → Entry
entry_read b = record {
  number = get_or b 0 0;
  standing = standing_read b;
  place = get_or b 2 0;
  against = get_or b 3 0;
  signers = word_at 4 4 b;
  identity = take 32 (drop 8 b);
}
