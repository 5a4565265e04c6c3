-- The text of a track (docs/REFERENCE.md, 'Track and listing'): a line `contested=N`, then the transmissions in the track's order as on a board, with `dominated=0`.
use Rattle.std.specs.Prelude.{ℕ, suc, cond, ltb, length}
use mathlib.Core.List.{List, [], ◌∷◌, ◌++◌, flat_map}
use Rattle.octets.specs.Ascii.{ascii}
use Rattle.text.specs.Numbers.{decimal}
use Rattle.arithmetic.specs.Bits.{stored_chi_square}
use Rattle.errors.specs.After.{After, after, write_text}
use Rattle.track_transmission.specs.Held.{RefusedFix, HeldTransmission}
use Rattle.fix_lines.specs.Lines.{header, refused_line}
use Rattle.fix_lines.specs.Text.{ranked_text, board_size}
use Rattle.track_memory.specs.Track.{Track}
use Rattle.track_memory.specs.Memory.{well_formed, decode}

-- `chi2=none` where the bits of the infinity are stored; any other bits are written as those of the number that they are, 7ff8000000000000 for every NaN
abbrev pub refused_text : RefusedFix → List ℕ
refused_text x = refused_line x.fix.record_bytes x.fix.signers (stored_chi_square x.chi2)

-- a transmission with its number
unfoldable pub held_text : ℕ → HeldTransmission → List ℕ
held_text number t =
    header number (length t.fixes) 0 (length t.refused) ++ (flat_map ranked_text t.fixes ++ flat_map refused_text t.refused)

-- transmissions, the first with this number
unfoldable pub held_from : ℕ → List HeldTransmission → List ℕ
held_from number [] = []
held_from number (t ∷ ts) = held_text number t ++ held_from (suc number) ts

-- how many fixes entered a list of refused
unfoldable pub contested_line : ℕ → List ℕ
contested_line n = ascii "contested=" ++ (decimal n ++ ascii "\n")

unfoldable pub listing_of : Track → List ℕ
listing_of s = contested_line s.contested ++ held_from 1 s.transmissions

-- 1 for bytes that are no track, 10 for an output that is too small; else the text and its length, and bytes past it are untouched
unfoldable pub list_track : List ℕ → List ℕ → After (List ℕ)
list_track m out =
    cond (well_formed m) (cond (ltb (length out) board_size) (after 10 out) (write_text (listing_of (decode m)) out)) (after 1 out)
