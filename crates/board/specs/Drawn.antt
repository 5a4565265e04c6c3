-- No claim rests on these definitions: they say what is written of a picture, line by line.
use Rattle.std.specs.Prelude.{ℕ, suc, List, [], ◌∷◌, ◌++◌, take, flat_map}
use Rattle.desks.specs.declared.Desk.{Desk}
use Rattle.desks.specs.declared.Desk.TheVariants.{Crew, Analyst, Manager}
use Rattle.fix_lines.specs.Lines.{header}
use Rattle.fix_lines.specs.Crew.{crew_header}
use Rattle.fix_lines.specs.Standings.{standing_line}
use Rattle.board_picture.specs.Lines.{ShownLine, ShownPart}

abbrev pub line_text : ShownLine → List ℕ
line_text l = standing_line l.standing l.fix.record_bytes l.fix.signers

-- a transmission, with its number
abbrev pub part_text : ℕ → ShownPart → List ℕ
part_text number p = header number p.counts.ranked p.counts.dominated p.counts.refused ++ flat_map line_text p.lines

-- what a crew sees of it
abbrev pub crew_part_text : ℕ → ShownPart → List ℕ
crew_part_text number p = crew_header number ++ flat_map line_text (take p.counts.ranked p.lines)

-- in the form of a desk
abbrev pub part_text_for : Desk → ℕ → ShownPart → List ℕ
part_text_for Crew number p = crew_part_text number p
part_text_for Analyst number p = part_text number p
part_text_for Manager number p = part_text number p

-- transmissions, the first with this number
unfoldable pub parts_text : Desk → ℕ → List ShownPart → List ℕ
parts_text desk number [] = []
parts_text desk number (p ∷ ps) = part_text_for desk number p ++ parts_text desk (suc number) ps
