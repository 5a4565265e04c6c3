use Rattle.std.proofs.Common.{sym, ◌∙◌, arith}
use Rattle.floats.proofs.Leading.{normal-root}
use Rattle.floats.proofs.root_normal.Goals as goal

pub returns : goal.returns
returns c = c.root_of.ensures ∙ sym (normal-root c.args.b c.requires.0 (omega (arith, c.requires.1)))
