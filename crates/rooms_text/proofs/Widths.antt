-- How long lines are at most.
use Rattle.std.proofs.Common.{ℕ, ◌*◌, ◌≤◌, ◌≡◌, List, [], ◌∷◌, length, length-append, arith, flat_map, refl, length-take, drop}
use Rattle.octets.specs.Ascii.{ascii}
use Rattle.text.specs.Numbers.{hex}
use Rattle.text.proofs.Readback.{decimal-width, hex-width}
use Rattle.models.specs.Summary.{engine_of, model_of, spec_of, summary_size, inputs_size, summary_inputs_at, summary_inputs}
use Rattle.fix_lines.specs.Lines.{where_when, fix_text, fix_line}
use Rattle.fix_lines.proofs.Widths.{line-width}
use Rattle.rooms_text.specs.declared.lines.Room.{Room}
use Rattle.rooms_text.specs.declared.lines.Room.TheVariants as room
use Rattle.rooms_text.specs.Lines.{letter, conviction_line, summary_line, report_line}
use Rattle.rooms_text.specs.Boards.{prefix}

letter-width : (r : Room) → length (letter r) ≡ 1
unfolding ascii
letter-width room.A = refl
letter-width room.B = refl

pub conviction-width : (r : Room) (e : ℕ) → length (conviction_line r e) ≤ 192
unfolding conviction_line ascii
conviction-width r e =
    let a = letter-width r in
    let b = decimal-width e in
    simp length-append (omega (arith, a, b))

pub prefix-width : (r : Room) (n : ℕ) → length (prefix r n) ≤ 64
unfolding ascii
prefix-width r n =
    let a = letter-width r in
    let b = decimal-width n in
    simp length-append (omega (arith, a, b))

hex-bytes : (l : List ℕ) → length (flat_map (hex 2) l) ≡ 2 * length l
hex-bytes [] = refl
hex-bytes (x ∷ l) =
    let a = hex-width 2 x in
    let b = hex-bytes l in
    simp length-append (omega (arith, a, b))

inputs-width : (p : List ℕ) → length p ≡ summary_size → length (summary_inputs p) ≤ 32
inputs-width p h = let a = length-take inputs_size (drop summary_inputs_at p) in omega (arith, a)

pub summary-width : (r : Room) (p : List ℕ) → length p ≡ summary_size → length (summary_line r p) ≤ 192
unfolding summary_line ascii
summary-width r p h =
    let a = letter-width r in
    let b = decimal-width (engine_of p) in
    let c = decimal-width (model_of p) in
    let d = decimal-width (spec_of p) in
    let e = hex-bytes (summary_inputs p) in
    let f = inputs-width p h in
    simp length-append (omega (arith, a, b, c, d, e, f))

-- it is a part of a line that is no longer
where-width : (r : List ℕ) → length (where_when r) ≤ 140
unfolding fix_line fix_text ascii
where-width r = let whole = line-width [] r 0 (omega arith) in omega (arith, simp length-append at whole)

pub report-width : (r : Room) (bytes : List ℕ) (e : ℕ) → length (report_line r bytes e) ≤ 192
unfolding report_line ascii
report-width r bytes e =
    let a = letter-width r in
    let b = decimal-width e in
    let c = where-width bytes in
    simp length-append (omega (arith, a, b, c))
