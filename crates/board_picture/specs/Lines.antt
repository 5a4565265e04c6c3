-- No claim rests on these definitions: they say which lines a transmission has.
use Rattle.std.specs.Prelude.{ℕ, ◌+◌, ◌≡◌, ◌<◌, List, [], ◌∷◌, map, ◌++◌, length, get_or, All}
use Rattle.fixes.specs.Fix.{Fix}
use Rattle.fixes.specs.Items.{no_fix, fix_at}
use Rattle.fixes.specs.Shown.{Transmission, shown}
use Rattle.board_transmissions.specs.Links.{Members, members_of}
use Rattle.decision_rule.specs.Outcome.{Refused as RefusedFix}
use Rattle.decision.specs.declared.Refusal.{Refusal}
use Rattle.arithmetic.specs.declared.standing.ChiSquare.{ChiSquare}
use Rattle.fix_lines.specs.declared.Standing.{Standing}
use Rattle.fix_lines.specs.declared.Standing.TheVariants.{Ranked, Dominated, Refused}
use Rattle.board_picture.specs.declared.line.Line.{Line}
use Rattle.board_picture.specs.declared.part.Counts.{Counts}

-- a fix, what became of it, and the fix against which it is refused: itself where it is not
pub record ShownLine : Type 0 where
  pub fix : Fix
  pub standing : Standing
  pub against : Fix

abbrev pub line_of : Standing → Fix → ShownLine
line_of s f = record { fix = f; standing = s; against = f }

abbrev pub refused_line_of : RefusedFix Fix ChiSquare → ShownLine
refused_line_of r = record { fix = r.item; standing = Refused r.chi2; against = r.against }

-- the ranked in rank, then the dominated and the refused
abbrev pub lines_of : Transmission → List ShownLine
lines_of t = map (line_of Ranked) t.ranked ++ (map (line_of Dominated) t.dominated ++ map refused_line_of t.refused)

-- how many are ranked, dominated and refused
abbrev pub counts_of : Transmission → Counts
counts_of t = record { ranked = length t.ranked; dominated = length t.dominated; refused = length t.refused }

abbrev pub all_counted : Counts → ℕ
all_counted n = n.ranked + (n.dominated + n.refused)

-- a transmission by its lines
pub record ShownPart : Type 0 where
  pub lines : List ShownLine
  pub counts : Counts

abbrev pub part_of : Transmission → ShownPart
part_of t = record { lines = lines_of t; counts = counts_of t }

-- what an index past the end of a list gives: no law reads it
abbrev pub no_part : ShownPart
no_part = record { lines = []; counts = record { ranked = 0; dominated = 0; refused = 0 } }

abbrev pub part_at : List ShownPart → ℕ → ShownPart
part_at ps k = get_or ps k no_part

-- the fix by which it is known: of its first line
abbrev pub first_line : List ShownLine → Fix
first_line [] = no_fix
first_line (l ∷ ls) = l.fix

abbrev pub first_of : ShownPart → Fix
first_of p = first_line p.lines

-- ---- as the code keeps them

-- the line of a refusal among fixes
abbrev pub line_refused : List Fix → Refusal → ShownLine
line_refused gs r = record { fix = fix_at gs r.refused; standing = Refused r.chi2; against = fix_at gs r.kept }

-- the line of one of these fixes
abbrev pub line_in : List Fix → Line → ShownLine
line_in fs l = record { fix = fix_at fs l.fix; standing = l.standing; against = fix_at fs l.against }

abbrev pub with_fixes : List Fix → List Line → List ShownLine
with_fixes fs ls = map (line_in fs) ls

-- of these fixes, lines are appended that are ls
pub record Appends (fs : List Fix) (old new : List Line) (ls : List ShownLine) : Type 0 where
  pub lines : with_fixes fs new ≡ with_fixes fs old ++ ls
  pub known : All (λ l. l.fix < length fs) old → All (λ l. l.fix < length fs) new
  pub against : All (λ l. l.against < length fs) old → All (λ l. l.against < length fs) new

-- they are those of a transmission, and this is how many are of each kind
pub record Decides (m : Members) (old new : List Line) (n : Counts) : Type 0 where
  pub lines : Appends m.fixes old new (lines_of (shown (members_of m)))
  pub counts : n ≡ counts_of (shown (members_of m))
