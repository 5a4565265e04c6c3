-- No claim rests on these definitions: they say how the code keeps the transmissions of a board, and their order.
use Rattle.std.specs.Prelude.{ℕ, ◌+◌, ◌≤◌, ◌<◌, ◌≡◌, Bool, true, false, cond, ltb, List, length, map, take, drop, All}
use mathlib.Core.List.{Memᴰ}
use Rattle.board_fixes.specs.Order.{identities_ascend}
use Rattle.fixes.specs.Fix.{Fix}
use Rattle.fixes.specs.Items.{fix_at}
use Rattle.fixes.specs.Ages.{time_of, older}
use Rattle.board_transmissions.specs.Links.{total}
use Rattle.board_picture.specs.Lines.{ShownLine, ShownPart, all_counted, first_of, with_fixes}
use Rattle.board_picture.specs.declared.line.Line.{Line}
use Rattle.board_picture.specs.declared.part.Part.{Part}

-- the transmissions of these fixes, the oldest first
pub record Shows : Type 0 where
  pub fixes : List Fix
  pub parts : List ShownPart

abbrev pub earlier : ShownPart → ShownPart → Bool
earlier a b = older (first_of a) (first_of b)

unfoldable pub before : Part → Part → Bool
before p q = cond (ltb p.time q.time) true (cond (ltb q.time p.time) false (ltb p.first q.first))

-- what it has of these lines
abbrev pub part_in : List ShownLine → Part → ShownPart
part_in ls q = record { lines = take (all_counted q.counts) (drop q.start ls); counts = q.counts }

-- how many lines parts have
abbrev pub lines_in : List ShownPart → ℕ
lines_in ps = total (λ p. length p.lines) ps

-- a part lies within the lines, and is known by the first of them
pub record Lies (fs : List Fix) (ls : List ShownLine) (q : Part) : Type 0 where
  pub ends : q.start + all_counted q.counts ≤ length ls
  pub there : q.first < length fs
  pub is : fix_at fs q.first ≡ first_of (part_in ls q)
  pub sent : q.time ≡ time_of (first_of (part_in ls q))

-- so does each, and each line is of a part
pub record Within (fs : List Fix) (lines : List Line) (qs : List Part) : Type 0 where
  pub in_order : identities_ascend fs ≡ true
  pub known : All (λ l. l.fix < length fs) lines
  pub against : All (λ l. l.against < length fs) lines
  pub lie : (q : Part) → Memᴰ q qs → Lies fs (with_fixes fs lines) q
  pub all : length lines ≤ lines_in (map (part_in (with_fixes fs lines)) qs)
