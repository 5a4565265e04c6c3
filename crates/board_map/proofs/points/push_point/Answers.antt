use Rattle.std.proofs.Common.{ap, ◌∙◌}
use Rattle.text.specs.Texts.{append}
use Rattle.text.proofs.Appending.{append-then}
use Rattle.octets.specs.Ascii.{ascii}
use Rattle.fixes.specs.Fix.{Fix}
use Rattle.board_map.specs.Points.{point_of}
use Rattle.board_map.specs.Text.{point_text}
use Rattle.board_map.proofs.points.push_point.Goals as goal

pub returns : goal.returns
unfolding point_text ascii
returns c =
    append-then _ _ _ _ _ c.push_str.ensures (append-then _ _ _ _ _ c.push_coordinates.ensures (append-then _ _ _ _ _ c.push_str-2.ensures (append-then _ _ _ _ _ c.push_properties.ensures c.push_str-3.ensures)))
    ∙ ap (λ (f : Fix). append c.args.out.now (point_text (point_of f))) c.fix.view_is
