-- No claim rests on these definitions: they say what the code writes of a picture, point by point.
use Rattle.std.specs.Prelude.{ℕ, cond, Bool, true, false, List, [], ◌++◌, flat_map, map, filter}
use Rattle.octets.specs.Ascii.{ascii}
use Rattle.lists.specs.Lists.{sort}
use Rattle.fixes.specs.Fix.{Fix}
use Rattle.fixes.specs.Shown.{shown}
use Rattle.board_transmissions.specs.Transmissions.{transmissions_of}
use Rattle.board_picture.specs.Picture.{older_than, latest_of}
use Rattle.board_picture.specs.Lines.{ShownPart, first_of}
use Rattle.board_map.specs.Points.{Point, point_of, lies_within, points_of}
use Rattle.board_map.specs.Text.{point_text, points_text, map_text}

-- the points of transmissions, by their lines
abbrev pub points_in : List ShownPart → List Point
points_in ps = filter lies_within (map (λ (p : ShownPart). point_of (first_of p)) ps)

-- what stands before a point, if there was one already
abbrev pub separator : Bool → List ℕ
separator any = cond any (ascii ",") []

-- further points, if there was one already
abbrev pub further_text : Bool → List Point → List ℕ
further_text true ps = flat_map (λ (q : Point). ascii "," ++ point_text q) ps
further_text false ps = points_text ps

-- the map of fixes
abbrev pub map_over : List Fix → List ℕ
map_over fs = map_text (points_of (latest_of (sort older_than (map shown (transmissions_of fs)))))
