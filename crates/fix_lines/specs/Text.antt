-- The text of a board: of each transmission a header, numbered from 1, then a line for each ranked fix in rank, and for each dominated and each refused fix in
-- ascending identity. `Lines` has what a header and a line say.
-- Source: docs/REFERENCE.md, 'Text'.
use Rattle.std.specs.Prelude.{ℕ, suc, length}
use mathlib.Core.List.{List, [], ◌∷◌, ◌++◌, flat_map}
use Rattle.fixes.specs.Fix.{Fix}
use Rattle.decision_rule.specs.Outcome.{Refused}
use Rattle.fixes.specs.Shown.{Transmission}
use Rattle.fix_lines.specs.Lines.{header, ranked_line, dominated_line, refused_line}
use Rattle.arithmetic.specs.declared.standing.ChiSquare.{ChiSquare}

abbrev pub header_of : ℕ → Transmission → List ℕ
header_of number t = header number (length t.ranked) (length t.dominated) (length t.refused)

abbrev pub ranked_text : Fix → List ℕ
ranked_text f = ranked_line f.record_bytes f.signers

abbrev pub dominated_text : Fix → List ℕ
dominated_text f = dominated_line f.record_bytes f.signers

abbrev pub refused_text : Refused Fix ChiSquare → List ℕ
refused_text r = refused_line r.item.record_bytes r.item.signers r.chi2

-- a transmission with its number
unfoldable pub text_of : ℕ → Transmission → List ℕ
text_of number t =
    header_of number t
    ++ (flat_map ranked_text t.ranked ++ (flat_map dominated_text t.dominated ++ flat_map refused_text t.refused))

-- transmissions, the first with this number
unfoldable pub text_from : ℕ → List Transmission → List ℕ
text_from number [] = []
text_from number (t ∷ ts) = text_of number t ++ text_from (suc number) ts

-- the first is numbered 1
abbrev pub board_text : List Transmission → List ℕ
board_text ts = text_from 1 ts

-- what a caller lends at least: less is refused with 10
abbrev pub board_size : ℕ
board_size = 16384
