-- What is claimed of lines by example: those of the worked session, and one with the greatest longitude and otherwise everything at its widest.
-- Source: docs/REFERENCE.md, 'Text'.
use Rattle.std.specs.Prelude.{◌≡◌, List, ◌∷◌, ◌++◌, [], ℕ, replicate}
use Rattle.std.specs.Float.{binary64}
use Rattle.std.specs.Float.Ieee.{of_bits}
use Rattle.octets.specs.Words.{word_bytes}
use Rattle.record.specs.Layout.{used_size}
use Rattle.octets.specs.Ascii.{ascii}
use Rattle.arithmetic.specs.declared.standing.ChiSquare.TheVariants.{Measured, Unmeasured}
use Rattle.fix_lines.specs.Lines.{header, ranked_line, refused_line}
use Rattle.fix_lines.specs.Crew.{crew_header}

-- the record of the worked session as far as a line reads it: time 1000, latitude 500000000, longitude 100000000, a height, and the used tags
abbrev pub record_with : List ℕ → ℕ → List ℕ
record_with height used =
    word_bytes 8 1000 ++ word_bytes 4 500000000 ++ word_bytes 4 100000000 ++ height ++ (7 ∷ 0x8d ∷ replicate 13 0) ++ (2 ∷ word_bytes used_size used)

-- the least latitude and height, the greatest time and longitude, all tags used
abbrev pub widest_record : List ℕ
widest_record =
    replicate 8 255 ++ word_bytes 4 0x8000_0000 ++ word_bytes 4 0x7fff_ffff ++ (1 ∷ word_bytes 4 0x8000_0000) ++ replicate 16 0 ++ (255 ∷ 255 ∷ 255 ∷ 0 ∷ [])

pub record LinesAsWritten : Type 0 where
  pub header : header 1 1 0 1 ≡ ascii "transmission=1 ranked=1 dominated=0 refused=1\n"
  pub crew : crew_header 1 ≡ ascii "transmission=1\n"
  pub ranked :
      ranked_line (record_with (1 ∷ word_bytes 4 1500) 3) 2
      ≡ ascii "role=ranked time=1000 lat=500000000 lon=100000000 height=2 weight=2 signers=00000002\n"
  pub unmeasured :
      refused_line (record_with (replicate 5 0) 7) 4 Unmeasured
      ≡ ascii "role=refused time=1000 lat=500000000 lon=100000000 height=none weight=3 signers=00000004 chi2=none\n"
  -- 16.266, the limit of three
  pub measured :
      refused_line (record_with (replicate 5 0) 7) 4 (Measured (of_bits binary64 0x4030_4418_9374_bc6a))
      ≡ ascii "role=refused time=1000 lat=500000000 lon=100000000 height=none weight=3 signers=00000004 chi2=403044189374bc6a\n"
  pub widest :
      ranked_line widest_record 0xffff_ffff
      ≡ ascii "role=ranked time=18446744073709551615 lat=-2147483648 lon=2147483647 height=-2147484 weight=24 signers=ffffffff\n"
