-- The lines that say what a room lacks: a conviction, a summary, or a report of a record by an engine. Each ends with a line feed.
-- Source: docs/REFERENCE.md, 'Two rooms'.
use Rattle.std.specs.Prelude.{ℕ, List, ◌++◌, flat_map}
use Rattle.octets.specs.Ascii.{ascii}
use Rattle.text.specs.Numbers.{decimal, hex}
use Rattle.models.specs.Summary.{engine_of, model_of, spec_of, summary_inputs}
use Rattle.fix_lines.specs.Lines.{where_when}
use Rattle.rooms_text.specs.declared.lines.Room.{Room}
use Rattle.rooms_text.specs.declared.lines.Room.TheVariants as room

abbrev pub letter : Room → List ℕ
letter room.A = ascii "A"
letter room.B = ascii "B"

-- room=A lacks=report
abbrev pub head : Room → List ℕ → List ℕ
head r kind = ((ascii "room=" ++ letter r) ++ ascii " lacks=") ++ kind

-- room=A lacks=conviction engine=3
unfoldable pub conviction_line : Room → ℕ → List ℕ
conviction_line r e = (head r (ascii "conviction") ++ (ascii " engine=" ++ decimal e)) ++ ascii "\n"

abbrev pub inputs_text : List ℕ → List ℕ
inputs_text p = ascii " inputs=" ++ flat_map (hex 2) (summary_inputs p)

-- room=A lacks=summary engine=3 model=5 spec=3 inputs=00..00, of a summary's bytes
unfoldable pub summary_line : Room → List ℕ → List ℕ
summary_line r p =
    ((((head r (ascii "summary") ++ (ascii " engine=" ++ decimal (engine_of p))) ++ (ascii " model=" ++ decimal (model_of p))) ++ (ascii " spec=" ++ decimal (spec_of p)))
    ++ inputs_text p)
    ++ ascii "\n"

-- room=A lacks=report engine=3 time=1000 lat=500000000 lon=100000000, of a record's bytes
unfoldable pub report_line : Room → List ℕ → ℕ → List ℕ
report_line r bytes e = ((head r (ascii "report") ++ (ascii " engine=" ++ decimal e)) ++ where_when bytes) ++ ascii "\n"
