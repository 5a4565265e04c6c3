-- The lines of the worked session, and a line with the greatest longitude and otherwise everything at its widest.
use Rattle.std.proofs.Common.{refl}
use lib.Ieee.{of_bits, to_bits}
use Rattle.octets.specs.Words.{word_bytes, word}
use Rattle.octets.specs.Masks.{bit_count}
use Rattle.text.specs.Numbers.{digits, signed_decimal, hex}
use Rattle.octets.specs.Ascii.{ascii}
use Rattle.fix_lines.specs.Lines.{header, metres_text, height_text, where_when, fix_text, fix_line, chi_square_text, refused_line}
use Rattle.fix_lines.specs.Crew.{crew_header}
use Rattle.fix_lines.specs.Worked.{LinesAsWritten}

pub lines-as-written : LinesAsWritten
unfolding header crew_header fix_line refused_line chi_square_text fix_text where_when height_text metres_text ascii word_bytes word bit_count digits signed_decimal hex of_bits to_bits
lines-as-written = record { header = refl; crew = refl; ranked = refl; unmeasured = refl; measured = refl; widest = refl }
