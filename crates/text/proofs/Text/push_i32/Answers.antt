use Rattle.std.proofs.Common.{ap, ◌∙◌, w32}
use Rattle.std.specs.Fmt.{signed_decimal}
use mir.Facts.{to_z-of_z}
use Rattle.text.specs.Texts.{append}
use Rattle.text.proofs.Numerals.{signed-std}
use Rattle.text.proofs.Text.push_i32.Goals as goal

pub returns : goal.returns
returns c = c.push_str.ensures ∙ ap (append c.args.self.now) (c.format.ensures.text ∙ ap signed_decimal (to_z-of_z {w = w32} {z = c.args.v} c.ranges.v) ∙ signed-std c.args.v c.ranges.v.sfits)
