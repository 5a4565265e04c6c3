-- The lines of a board: a header for each transmission, and a line
-- for each of its fixes. Each ends with a line feed.
-- Source: docs/REFERENCE.md, 'Text'.
use Rattle.std.specs.Prelude.{ℕ, ℤ, List, ◌++◌, Option, Some, None}
use Rattle.std.specs.Float.{binary64}
use Rattle.std.specs.Float.Ieee.{to_bits}
use Rattle.text.specs.Numbers.{decimal, signed_decimal, hex}
use Rattle.text.specs.Heights.{metres}
use Rattle.record.specs.Fields.{time, latitude, longitude, height, weight}
use Rattle.octets.specs.Ascii.{ascii}
use Rattle.arithmetic.specs.declared.standing.ChiSquare.{ChiSquare}
use Rattle.arithmetic.specs.declared.standing.ChiSquare.TheVariants.{Measured, Unmeasured}

-- transmission=1 ranked=1 dominated=0 refused=1
unfoldable pub header : ℕ → ℕ → ℕ → ℕ → List ℕ
header number ranked dominated refused =
    (ascii "transmission=" ++ decimal number)
    ++ ((ascii " ranked=" ++ decimal ranked)
    ++ ((ascii " dominated=" ++ decimal dominated)
    ++ ((ascii " refused=" ++ decimal refused)
    ++ ascii "\n")))

-- time=1000 lat=500000000 lon=100000000
unfoldable pub where_when : List ℕ → List ℕ
where_when r = (ascii " time=" ++ decimal (time r)) ++ ((ascii " lat=" ++ signed_decimal (latitude r)) ++ (ascii " lon=" ++ signed_decimal (longitude r)))

-- a height in whole metres, or `none`; the rule of rounding is that of text specs/Heights
unfoldable pub metres_text : Option ℤ → List ℕ
metres_text None = ascii "none"
metres_text (Some h) = signed_decimal (metres h)

unfoldable pub height_text : List ℕ → List ℕ
height_text r = ascii " height=" ++ metres_text (height r)

-- what every line says of a fix: its role, its record, and its signers in 8 hex digits, highest first
unfoldable pub fix_text : List ℕ → List ℕ → ℕ → List ℕ
fix_text role r signers =
    (ascii "role=" ++ role)
    ++ (where_when r
    ++ (height_text r
    ++ ((ascii " weight=" ++ decimal (weight r))
    ++ (ascii " signers=" ++ hex 8 signers))))

-- a line of a ranked or dominated fix
unfoldable pub fix_line : List ℕ → List ℕ → ℕ → List ℕ
fix_line role r signers = fix_text role r signers ++ ascii "\n"

abbrev pub ranked_line : List ℕ → ℕ → List ℕ
ranked_line r signers = fix_line (ascii "ranked") r signers

abbrev pub dominated_line : List ℕ → ℕ → List ℕ
dominated_line r signers = fix_line (ascii "dominated") r signers

-- the bits of a chi-square in 16 hex digits, and `none` where there is no number
unfoldable pub chi_square_text : ChiSquare → List ℕ
chi_square_text (Measured x) = hex 16 (to_bits binary64 x)
chi_square_text Unmeasured = ascii "none"

unfoldable pub refused_line : List ℕ → ℕ → ChiSquare → List ℕ
refused_line r signers chi2 = fix_text (ascii "refused") r signers ++ ((ascii " chi2=" ++ chi_square_text chi2) ++ ascii "\n")
