use Rattle.std.proofs.Common.{ap, ◌∙◌}
use Rattle.text.specs.Texts.{append}
use Rattle.text.proofs.Numerals.{decimal-std}
use Rattle.text.proofs.Text.push_u64.Goals as goal

pub returns : goal.returns
returns c = c.push_str.ensures ∙ ap (append c.args.self.now) (c.format.ensures.text ∙ decimal-std c.args.n c.ranges.n.fits)
